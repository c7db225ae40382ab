-- A file that is loaded stands for the state before the first command.
use Rattle.std.proofs.Common.{◌≡◌, ◌≤◌, ◌<◌, ◌∙◌, ap, sym, subst, refl, inl, inr, arith, ℕ, zero, suc, List, []}
use Rattle.std.specs.Prelude.{◌↔◌, nat_lt, length, Contains}
use Rattle.std.proofs.lemmas.List.Elements.{Contains-append_cases, Contains-append_left}
use Rattle.std.proofs.lemmas.Bool.{ltb-false, ltb-true}
use Rattle.lists.proofs.Cases.{by_test, same_or_not}
use Rattle.lists.proofs.Entries.{All-none}
use Rattle.lists.proofs.Members.{Contains-cases, Contains-here, Contains-none, Contains-there}
use Rattle.location_table.specs.Laws.{PlacesHaveWords}
use Rattle.location_words.specs.declared.pair.Pair.{Pair}
use Rattle.orientation.specs.declared.rule.Rule.{Rule}
use Rattle.orientation.specs.Rules.{usual}
use Rattle.expansion_laws.specs.Expansion.{IsNumberOf}
use Rattle.expansion_laws.specs.Keeping.{HasWordsOf, IsWordOf}
use Rattle.expansion_laws.specs.Trees.{uses, Tree, Use}
use Rattle.shape_pool.specs.Calls.{IsLoadedAs}
use Rattle.shape_pool.specs.declared.node.UseOf.{UseOf}
use Rattle.shape_pool.specs.Laws.{word_in, IsSound as IsSoundPool}
use Rattle.shape_pool.specs.Rows.{Row, HaveKinds, tree_at, trees_of}
use Rattle.requests.specs.declared.request.Request.{Request}
use Rattle.requests.specs.Numbered.{ActFits, IsHeldIn}
use Rattle.step_history.specs.declared.history.StepHistory.{StepHistory}
use Rattle.step_history.specs.Composition.{history_after, no_history}
use Rattle.step_history.specs.Numbered.{tree_by, IsHeld, IsReading, Tells}
use Rattle.history_merge.specs.Merged.{TellsStart}
use Rattle.brep_file.specs.declared.file.File.{File}
use Rattle.brep_file.specs.PlainRecords.{expansion_of, tree_of_record}
use Rattle.brep_file.specs.Sound.{IsSound, IsWithinLimits}
use Rattle.file_loading.specs.Loading.{kind_of_record, use_in, IsLoadedFrom}
use Rattle.script_requests.specs.AsTrees.{IsWorded}
use Rattle.script_requests.specs.declared.version.Version.{Version}
use Rattle.script_requests.specs.Kinds.{kind_of}
use Rattle.session.specs.Standing.{IsDatumOf, IsStocked, IsUseHeld, Stands}
use Rattle.session.specs.States.{first_state, held_trees, record_trees}
use Rattle.session.proofs.EndLaws.{a-session}
use Rattle.session.proofs.FirstPlaces.{all-loaded, loaded-as}
use Rattle.session.proofs.FirstWords.{place-word, record-words}
use Rattle.session.proofs.HeldTrees.{listed-tree, tree-listed}
use Rattle.session.proofs.StepGiven.{all-nodes, origin-is}
use Rattle.session.proofs.StepReads.{tells-words}

-- ---- the trees of records
not-last : (n k : ℕ) → k ≤ suc n → (suc n ≡ k → ⊥) → k ≤ n
not-last n k le other =
    by_test (nat_lt n k) (λ t. let g = ltb-true n k t in absurd (other (omega (arith, g, le))))
    (λ f. let g = ltb-false n k f in omega (arith, g))

module _ (f : File) where
  in-records : (n k : ℕ) → IsNumberOf n k → Contains (record_trees f n) (tree_of_record f k)
  in-records zero k num = let a = num.0 in let b = num.1 in absurd (omega (arith, a, b))
  in-records (suc n) k num =
      same_or_not (suc n) k
      (λ e. subst (λ z. Contains (record_trees f (suc n)) (tree_of_record f z)) e
      (Contains-here (tree_of_record f (suc n)) (record_trees f n)))
      (λ other.
      Contains-there (tree_of_record f (suc n)) (tree_of_record f k) (record_trees f n)
      (in-records n k (num.0, not-last n k num.1 other)))

  of-records : (n : ℕ) (x : Tree) → Contains (record_trees f n) x →
      (k : ℕ) × IsNumberOf n k × (tree_of_record f k ≡ x)
  of-records zero x m = absurd (Contains-none x m)
  of-records (suc n) x m =
      elim (Contains-cases (tree_of_record f (suc n)) x (record_trees f n) m) [
        | inl e ↦ (suc n, (omega arith, omega arith), e)
        | inr r ↦ (
            let h = of-records n x r in
            let most = h.1.1 in
            (h.0, (h.1.0, omega (arith, most)), h.2))
      ]

module _ (laws : PlacesHaveWords) (f : File) (sound : IsSound f) (within : IsWithinLimits f) (words : List (List Pair))
    (rows : List Row) (first : UseOf) (start : StepHistory) (loaded : IsLoadedFrom f words rows)
    (size : length rows ≡ length f.records) (kinds : HaveKinds rows (kind_of_record f))
    (root : use_in words rows first ≡ expansion_of f) (held : IsUseHeld words rows first)
    (pool : IsSoundPool rows) (told : TellsStart rows first.id.0 start) (start-held : IsHeld rows start) where
  abbrev w : ℕ → List Pair
  w = word_in words

  abbrev n : ℕ
  n = length f.records

  number : (i : ℕ) → i < length rows → (k : ℕ) × IsNumberOf n k × IsLoadedAs rows k i
  number i lt = all-loaded rows n size loaded.loaded i lt

  tree-is : (i : ℕ) (lt : i < length rows) → tree_at w rows i ≡ tree_of_record f (number i lt).0
  tree-is i lt = loaded.trees (number i lt).0 i (number i lt).1 (number i lt).2

  held-are : (x : Tree) → Contains (trees_of w rows) x ↔ Contains (held_trees f (first_state f)) x
  held-are x = (
    (λ m.
        let i = listed-tree w rows x m in
        let k = number i.0 i.1 in
        Contains-append_left (record_trees f n) [] x
        (subst (Contains (record_trees f n)) (sym (tree-is i.0 i.1) ∙ i.2) (in-records f n k.0 k.1))),
    (λ m. elim (Contains-append_cases (record_trees f n) [] x m) [
      | inl r ↦ (
          let k = of-records f n x r in
          let i = loaded-as rows k.0 (loaded.loaded k.0 k.1) in
          subst (Contains (trees_of w rows)) (loaded.trees k.0 i.0 k.1 i.1 ∙ k.2)
          (tree-listed w rows i.0 i.1.1.0))
      | inr none ↦ absurd (Contains-none x none)
    ]),
  )

  stocked : IsStocked f words rows (first_state f)
  stocked = record {
    loaded = loaded;
    kinds = kinds;
    origins = λ i lt. inr (subst (IsNumberOf n) (sym (number i lt).2.1.1) (number i lt).1);
    held = held-are;
    over_datums = λ x m.
        let i = listed-tree w rows x m in
        subst (HasWordsOf (IsDatumOf f)) i.2
        (all-nodes w rows pool (λ y. (u : Use) → Contains (uses y) u → IsWordOf (IsDatumOf f) u.word)
        (λ j lt u k. record-words laws f sound.tables.locations (number j lt).0 u
        (subst (λ z. Contains (uses z) u) (tree-is j lt) k)) i.0 i.1);
  }

  reading : IsReading rows (kind_of f) w (length words)
  reading = record {
    kinds = λ i lt. ap (kind_of_record f) (origin-is w rows pool i lt) ∙ kinds i lt;
    placed = loaded.places;
    told = tells-words words loaded.table;
  }

  start-told : Tells (tree_by w rows) start (history_after (kind_of f) (expansion_of f) [])
  start-told =
      subst (λ (u : Use). Tells (tree_by w rows) start (no_history (kind_of f) u.tree)) root
      (told (kind_of f) w (length words) reading)

  stands : Stands (a-session f words rows first start [] [] usual f.version 0) (first_state f)
  stands = record {
    sound = sound;
    within = within;
    stocked = stocked;
    first_held = held;
    first = root;
    first_word = place-word laws f.locations sound.tables.locations f.root.location;
    start_held = start-held;
    start = start-told;
    versions = tt;
    asked = record {
      held = All-none (IsHeldIn rows);
      worded = All-none (IsWorded (length words));
      fit = All-none (λ (r : Request). ActFits rows r.source.0 r.act);
      stands = refl;
      over_datums = λ r by m e. absurd (Contains-none r m);
    };
    rule = refl;
    output = refl;
    version = inl refl;
    carried = refl;
  }

  pub first-stands : (versions : List Version) (asked : List Request) (rule : Rule) → versions ≡ [] → asked ≡ [] →
      rule ≡ usual → Stands (a-session f words rows first start versions asked rule f.version 0) (first_state f)
  first-stands versions asked rule e g h =
      subst (λ l. Stands (a-session f words rows first start l asked rule f.version 0) (first_state f)) (sym e)
      (subst (λ l. Stands (a-session f words rows first start [] l rule f.version 0) (first_state f)) (sym g)
      (subst (λ r. Stands (a-session f words rows first start [] [] r f.version 0) (first_state f)) (sym h) stands))
