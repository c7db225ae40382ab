-- A number of each column is read exactly as it is spelled.
use Rattle.std.proofs.Common.{◌≡◌, ℕ, ◌<◌, List, [], ◌∷◌, ◌++◌, map, Option, Some, None, Ok, refl, sym, ap, ◌∙◌}
use Rattle.std.proofs.Common.{append_assoc, append-nil}
use Rattle.std.specs.Prelude.{slice_get}
use Rattle.std.proofs.lemmas.Option.{get_or_from_slice_get, slice_get-get_or, slice_get_within}
use Rattle.brep_tokens.specs.Forms.{continuity_of, continuity_words}
use Rattle.brep_tokens.specs.Laws.{FormsAreExact}
use Rattle.brep_tokens.specs.declared.text.Token.{Token}
use Rattle.brep_tokens.specs.declared.fault.ReadCode.{ReadCode}
use Rattle.brep_tokens.specs.declared.fault.ReadCode.TheVariants as codes
use Rattle.entry_readers.specs.Begins.{Begins, FieldsAreExact}
use Rattle.entry_readers.specs.Reading.{spelled}
use Rattle.lists.proofs.Results.{bind_ok, ok_is}
use Rattle.tshape_data.specs.Parts.{column_part, column_parts, continuity_text}
use Rattle.tshape_data.specs.RepReading.{column_at, columns_from, continuity_at, size_of}
use Rattle.tshape_data.specs.Sound.{AreInColumns, IsInColumn, sizes}
use Rattle.tshape_data.specs.Spelling.{part_text}
use Rattle.tshape_data.specs.declared.head_bounds.HeadBounds.{HeadBounds}
use Rattle.tshape_data.specs.declared.columns.Table.{Table}
use Rattle.tshape_data.specs.declared.columns.Table.TheVariants.{Curve2s, Curves, Polygons, PolygonsOn, Surfaces}
use Rattle.tshape_data.specs.declared.columns.Table.TheVariants.{Meshes}
use Rattle.tshape_data.specs.declared.columns.Column.{Column}
use Rattle.tshape_data.specs.declared.columns.Column.TheVariants.{Entry, Location, Continuity}

pub spelled_ok : {A : Type 0} (code : ReadCode) (t : Token) (ts rest : List Token) (o : Option A) (x : A)
    → spelled code t ts o ≡ Ok (x, rest) → (o ≡ Some x) × (ts ≡ rest)
spelled_ok code t ts rest (Some y) x e =
    let p = ok_is (y, ts) (x, rest) e in
    (ap (λ q. Some q.0) p, ap (λ q. q.1) p)
spelled_ok code t ts rest None x e = absurd cc

-- the tokens of numbers in columns
abbrev pub number_texts : List Column → List ℕ → List (List ℕ)
number_texts cs ns = map part_text (column_parts cs ns)

same_size : (b : HeadBounds) (table : Table) → size_of (sizes b) table ≡ size_of b table
same_size b Curve2s = refl
same_size b Curves = refl
same_size b Polygons = refl
same_size b PolygonsOn = refl
same_size b Surfaces = refl
same_size b Meshes = refl

module _ (forms : FormsAreExact) where
  continuity_takes : (ts rest : List Token) (n : ℕ) → continuity_at ts ≡ Ok (n, rest)
      → Begins ts (continuity_text n ∷ []) rest × (n < 7)
  continuity_takes [] rest n e = absurd cc
  continuity_takes (t ∷ ts) rest n e =
      let s = spelled_ok codes.WordExpected t ts rest (continuity_of t.text) n e in
      let is : slice_get continuity_words n ≡ Some t.text = (forms.continuities t.text n).0 s.0 in (
        (sym (get_or_from_slice_get continuity_words n t.text [] is), s.1),
        slice_get_within continuity_words n t.text is,
      )

  continuity_again : (ts rest : List Token) (n : ℕ) → Begins ts (continuity_text n ∷ []) rest → n < 7
      → continuity_at ts ≡ Ok (n, rest)
  continuity_again [] rest n b lt = absurd b
  continuity_again (t ∷ ts) rest n b lt =
      let is : slice_get continuity_words n ≡ Some t.text = slice_get-get_or continuity_words n [] lt
      ∙ ap (λ (x : List ℕ). Some x) (sym b.0) in
      rw ((forms.continuities t.text n).1 is, b.1) refl

module _ (forms : FormsAreExact) (fields : FieldsAreExact) (b : HeadBounds) where
  column_takes : (c : Column) (ts rest : List Token) (n : ℕ) → column_at b c ts ≡ Ok (n, rest)
      → Begins ts (part_text (column_part c n) ∷ []) rest × IsInColumn (sizes b) c n
  column_takes (Entry table) ts rest n e =
      rw (same_size b table) ((fields.ranged 1 (size_of b table)).takes ts rest n e)
  column_takes Location ts rest n e = (fields.ranged 0 b.locations).takes ts rest n e
  column_takes Continuity ts rest n e = continuity_takes forms ts rest n e

  column_again : (c : Column) (ts rest : List Token) (n : ℕ) → Begins ts (part_text (column_part c n) ∷ []) rest
      → IsInColumn (sizes b) c n → column_at b c ts ≡ Ok (n, rest)
  column_again (Entry table) ts rest n begins is = (fields.ranged 1 (size_of b table)).again ts rest n begins
      (rw (same_size b table) at is)
  column_again Location ts rest n begins is = (fields.ranged 0 b.locations).again ts rest n begins is
  column_again Continuity ts rest n begins is = continuity_again forms ts rest n begins is

  pub columns_takes : (cs : List Column) (ns : List ℕ) (ts rest : List Token) (xs : List ℕ)
      → columns_from b ns cs ts ≡ Ok (xs, rest)
      → (new : List ℕ) × (xs ≡ ns ++ new) × Begins ts (number_texts cs new) rest × AreInColumns (sizes b) cs new
  columns_takes [] ns ts rest xs e =
      let p = ok_is (ns, ts) (xs, rest) e in
      ([], sym (ap (λ q. q.0) p) ∙ sym (append-nil ns), ap (λ q. q.1) p, tt)
  columns_takes (c ∷ cs) ns ts rest xs e =
      let x = bind_ok (column_at b c ts) (λ n. columns_from b (ns ++ n.0 ∷ []) cs n.1) (xs, rest) e in
      let one = column_takes c ts x.0.1 x.0.0 x.1 in
      let more = columns_takes cs (ns ++ x.0.0 ∷ []) x.0.1 rest xs x.2 in (
        x.0.0 ∷ more.0,
        more.1 ∙ append_assoc ns (x.0.0 ∷ []) more.0,
        fields.joined ts (part_text (column_part c x.0.0) ∷ []) x.0.1 (number_texts cs more.0) rest one.0 more.2,
        (one.1, more.3),
      )

  pub columns_again : (cs : List Column) (ns : List ℕ) (ts rest : List Token) (new : List ℕ)
      → Begins ts (number_texts cs new) rest → AreInColumns (sizes b) cs new
      → columns_from b ns cs ts ≡ Ok (ns ++ new, rest)
  columns_again [] ns ts rest [] begins are = rw (begins, append-nil ns) refl
  columns_again [] ns ts rest (n ∷ new) begins are = absurd are
  columns_again (c ∷ cs) ns ts rest [] begins are = absurd are
  columns_again (c ∷ cs) ns [] rest (n ∷ new) begins are = absurd begins
  columns_again (c ∷ cs) ns (t ∷ ts) rest (n ∷ new) begins are =
      let one : column_at b c (t ∷ ts) ≡ Ok (n, ts) = column_again c (t ∷ ts) ts n (begins.0, refl) are.0 in
      rw (one, columns_again cs (ns ++ n ∷ []) ts rest new begins.1 are.1, append_assoc ns (n ∷ []) new) refl
