-- The heads of nodes.
use Rattle.std.proofs.Common.{◌≡◌, ◌<◌, ◌-◌, refl, sym, ◌∙◌, ap, map, subst, arith, inl, inr, true≢false}
use Rattle.std.specs.Prelude.{ℕ, Bool, true, false, if◌then◌else◌, nat_eq, ◌↔◌, Option, Some, None, List, [], ◌∷◌}
use Rattle.std.specs.Prelude.{length}
use Rattle.std.specs.Option.{option_map_or}
use Rattle.std.proofs.lemmas.Bool.{eq-eqb, eqb-true}
use Rattle.std.proofs.lemmas.Option.{slice_get_past}
use Rattle.lists.proofs.Cases.{by_test}
use Rattle.expansion_laws.specs.Equality.{tree_eq}
use Rattle.expansion_laws.specs.Expansion.{IsNumberOf}
use Rattle.expansion_laws.specs.Trees.{Tree, Use, origin, uses, list_of, uses_of}
use Rattle.shape_pool.specs.Calls.{IsLoadedAs}
use Rattle.shape_pool.specs.Laws.{word_in}
use Rattle.shape_pool.specs.Laws as pools
use Rattle.shape_pool.specs.Rows.{origin_at, uses_at}
use Rattle.tshape_data.specs.Sound.{IsSoundHead}
use Rattle.tshape_data.specs.declared.head.Head.{Head}
use Rattle.brep_file.specs.declared.file.File.{File}
use Rattle.brep_file.specs.declared.records.Record.{Record}
use Rattle.brep_file.specs.PlainRecords.{record_of, tree_of_record}
use Rattle.brep_file.specs.Sound.{sizes_of}
use Rattle.brep_writer.specs.declared.source.Source.{Source}
use Rattle.brep_writer.specs.Dress.{made_head, rebuilt}
use Rattle.brep_writer.specs.Sources.{head_in, tree_in, use_of, HasOrigin, IsLoadedSource}

-- by the record of the origin
abbrev head_by_record : File → Tree → ℕ → Option Record → Head
head_by_record f x o found =
    option_map_or (λ (r : Record). if tree_eq x (tree_of_record f o) then r.head else rebuilt r.head) found made_head

no-record : (f : File) → record_of f 0 ≡ None
no-record f = slice_get_past f.records (length f.records - 0) (omega arith)

head-chosen : (f : File) (x : Tree) (o : ℕ) (r : Record) (same : Bool) → record_of f o ≡ Some r
    → tree_eq x (tree_of_record f o) ≡ same
    → (if same then r.head else rebuilt r.head) ≡ head_by_record f x o (record_of f o)
head-chosen f x o r same is e =
    ap (λ (b : Bool). if b then r.head else rebuilt r.head) (sym e) ∙ ap (head_by_record f x o) (sym is)

module _ (s : Source) (pool : pools.IsSound s.pool.now) (i : ℕ) (lt : i < length s.pool.now) where
  pub origin-is : origin (tree_in s i) ≡ origin_at s.pool.now i
  origin-is = ap origin (pool.trees_of_uses (word_in s.words.now) i lt)

  list-of-uses : (us : List Use) → list_of (uses_of us) ≡ us
  list-of-uses [] = refl
  list-of-uses (u ∷ us) = ap (λ vs. u ∷ vs) (list-of-uses us)

  pub uses-are : uses (tree_in s i) ≡ map (use_of s) (uses_at s.pool.now i)
  uses-are =
      ap uses (pool.trees_of_uses (word_in s.words.now) i lt) ∙ list-of-uses (map (use_of s) (uses_at s.pool.now i))

  by-origin : (o : ℕ) → origin_at s.pool.now i ≡ o
      → head_in s i ≡ head_by_record s.file.now (tree_in s i) o (record_of s.file.now o)
  by-origin o e =
      ap (λ (k : ℕ). head_by_record s.file.now (tree_in s i) k (record_of s.file.now k)) (origin-is ∙ e)

  pub made-is : origin_at s.pool.now i ≡ 0 → made_head ≡ head_in s i
  made-is e = sym (by-origin 0 e ∙ ap (head_by_record s.file.now (tree_in s i) 0) (no-record s.file.now))

  pub loaded-is : (o : ℕ) (r : Record) → o ≡ origin_at s.pool.now i → record_of s.file.now o ≡ Some r
      → tree_eq (tree_in s i) (tree_of_record s.file.now o) ≡ true → r.head ≡ head_in s i
  loaded-is o r e is same =
      head-chosen s.file.now (tree_in s i) o r true is same ∙ sym (by-origin o (sym e))

  pub rebuilt-is : (o : ℕ) (r : Record) → o ≡ origin_at s.pool.now i → record_of s.file.now o ≡ Some r
      → tree_eq (tree_in s i) (tree_of_record s.file.now o) ≡ false → rebuilt r.head ≡ head_in s i
  rebuilt-is o r e is other =
      head-chosen s.file.now (tree_in s i) o r false is other ∙ sym (by-origin o (sym e))

  -- the node is the one that its origin was loaded as exactly where it stands for the record's tree
  pub loaded-first : ((x y : Tree) → (tree_eq x y ≡ true) ↔ (x ≡ y)) → IsLoadedSource s → (o j : ℕ)
      → IsNumberOf (length s.file.now.records) o → IsLoadedAs s.pool.now o j
      → nat_eq j i ≡ tree_eq (tree_in s i) (tree_of_record s.file.now o)
  loaded-first tell source o j number first = by_test (nat_eq j i)
      (λ e. e ∙ sym ((tell (tree_in s i) (tree_of_record s.file.now o)).1
      (ap (tree_in s) (sym (eqb-true j i e)) ∙ tree-is)))
      (λ e. e ∙ sym (by_test (tree_eq (tree_in s i) (tree_of_record s.file.now o))
      (λ same. absurd (true≢false (sym (eq-eqb j i (apart same)) ∙ e)))
      (λ other. other)))
    where
      tree-is : tree_in s j ≡ tree_of_record s.file.now o
      tree-is = source.loaded.trees o j number first

      apart : tree_eq (tree_in s i) (tree_of_record s.file.now o) ≡ true → j ≡ i
      apart same =
          (pool.ids_tell_trees_by s.words.now source.loaded.table source.loaded.places j i first.1.0 lt).1
          (tree-is ∙ sym ((tell (tree_in s i) (tree_of_record s.file.now o)).0 same))

-- the origin of a node that no step made is the number of a record, whose head is sound
pub number-is : (s : Source) (i o : ℕ) → o ≡ origin_at s.pool.now i → (o ≡ 0 → ⊥) → HasOrigin s i
    → IsNumberOf (length s.file.now.records) o
number-is s i o is other (inl zero_origin) = absurd (other (is ∙ zero_origin))
number-is s i o is other (inr number) = subst (IsNumberOf (length s.file.now.records)) (sym is) number

pub record-head : (s : Source) → IsLoadedSource s → (o : ℕ) (r : Record) → IsNumberOf (length s.file.now.records) o
    → record_of s.file.now o ≡ Some r → IsSoundHead (sizes_of s.file.now) s.file.now.version r.head
record-head s source o r number is = (source.sound.records o r number is).head
