-- The root that a session has left can be written.
use Rattle.std.proofs.Common.{◌≡◌, ◌<◌, ◌≤◌, refl, sym, ◌∙◌, ap, subst, arith, inl, inr}
use Rattle.std.specs.Prelude.{ℕ, ◌^◌, ◌⊎◌, Bool, true, false, if◌then◌else◌, Option, Some, None}
use Rattle.std.specs.Prelude.{List, [], ◌∷◌, ◌++◌, map, length, Contains, unwrap_or}
use Rattle.std.specs.List.{flat_map}
use Rattle.std.specs.Option.{option_map_or}
use Rattle.std.proofs.lemmas.List.{length-append}
use Rattle.std.proofs.lemmas.List.Elements.{All-contains, Contains-append_cases, Contains-append_left}
use Rattle.std.proofs.lemmas.List.Elements.{Contains-append_right}
use Rattle.lists.proofs.Distinct.{length-le_from_distinct}
use Rattle.lists.proofs.Each.{each-member}
use Rattle.lists.proofs.Members.{Contains-cases, Contains-flat_map_cases, Contains-map_cases, Contains-none}
use Rattle.lists.proofs.Places.{Contains-at, at_place}
use Rattle.location_table.proofs.PlaceLaws.{length_is}
use Rattle.location_table.specs.Words.{datums_of, words_of, word_of_place}
use Rattle.location_table.specs.Written.{IsOver, IsWordOver}
use Rattle.location_words.specs.declared.pair.Pair.{Pair}
use Rattle.location_words.specs.Pairs.{IsHeldWord}
use Rattle.orientation.specs.declared.kind.Kind.TheVariants.{Co}
use Rattle.orientation.specs.Kinds.{IsBelow}
use Rattle.expansion_laws.specs.Equality.{tree_eq}
use Rattle.expansion_laws.specs.Expansion.{IsNumberOf}
use Rattle.expansion_laws.specs.Measures.{subtrees}
use Rattle.expansion_laws.specs.Trees.{Tree, Use, uses, origin, list_of, uses_of}
use Rattle.expansion_laws.specs.Written.{flat, IsWritten}
use Rattle.shape_pool.specs.declared.node.UseOf.{UseOf}
use Rattle.shape_pool.specs.Laws.{word_in, ids_used}
use Rattle.shape_pool.specs.Laws as pools
use Rattle.shape_pool.specs.Rows.{Row, kind_at, origin_at, tree_at, trees_of, uses_at}
use Rattle.step_history.specs.Composition.{Done, root_after, AreInRow}
use Rattle.tshape_data.specs.Laws.{RenumberingKeepsParts}
use Rattle.tshape_data.specs.Locations.{data_locations}
use Rattle.written_locations.specs.Further.{further_words}
use Rattle.written_locations.specs.Laws.{FurtherWordsAreDue, NumbersArePlaces, SectionsHold}
use Rattle.brep_file.specs.declared.file.File.{File}
use Rattle.brep_file.specs.declared.records.Record.{Record}
use Rattle.brep_file.specs.PlainRecords.{record_of, tree_of_record, expansion_of}
use Rattle.brep_file.specs.Sound.{IsSound, IsWithinLimits}
use Rattle.file_loading.specs.Loading.{kind_of_record, use_in, HasOriginsOf}
use Rattle.script_requests.specs.declared.version.Version.{Version}
use Rattle.brep_writer.specs.Copies.{CanBeWritten}
use Rattle.brep_writer.specs.Dress.{head_for, made_head, rebuilt}
use Rattle.brep_writer.specs.WrittenFile.{locations_under, words_of_data, words_of_tree, words_under}
use Rattle.brep_writer.proofs.WrittenSound.{data-within}
use Rattle.key_results.proofs.GrownFaults.{tree-listed}
use Rattle.session.specs.Standing.{AreVersions, IsDatumOf, IsStocked, IsUseHeld}
use Rattle.session.specs.States.{State}

-- ---- the steps of a session
module _ (f : File) (words : List (List Pair)) (rows : List Row) where
  -- they stand in a row
  pub in-row : (vs : List Version) (ds : List Done) → AreVersions f words rows vs ds → AreInRow (expansion_of f) ds
  in-row [] [] is = tt
  in-row (v ∷ vs) (d ∷ ds) (is, rest) = (is.before, is.makes, in-row vs ds rest)
  in-row [] (d ∷ ds) is = absurd is
  in-row (v ∷ vs) [] is = absurd is

  -- the word of the root that they leave
  pub root-word : IsWordOver (length (datums_of f.locations)) (expansion_of f).word → (vs : List Version)
      → (ds : List Done) → AreVersions f words rows vs ds
      → IsOver (length (datums_of f.locations)) (root_after (expansion_of f) ds).word
  root-word first [] [] is = first.over
  root-word first (v ∷ vs) (d ∷ ds) (is, rest) =
      each-member (λ (p : Pair). IsDatumOf f p.datum) d.after.word is.word.1
  root-word first [] (d ∷ ds) is = absurd is
  root-word first (v ∷ vs) [] is = absurd is

-- ---- kinds of heads
kind-by : (same : Bool) (found : Option Record)
    → (option_map_or (λ (r : Record). if same then r.head else rebuilt r.head) found made_head).kind
    ≡ option_map_or (λ (r : Record). r.head.kind) found Co
kind-by true None = refl
kind-by false None = refl
kind-by true (Some r) = refl
kind-by false (Some r) = refl

kind-of-head : (f : File) (x : Tree) → (head_for f x).kind ≡ kind_of_record f (origin x)
kind-of-head f x = kind-by (tree_eq x (tree_of_record f (origin x))) (record_of f (origin x))

list-of-uses : (us : List Use) → list_of (uses_of us) ≡ us
list-of-uses [] = refl
list-of-uses (u ∷ us) = ap (λ vs. u ∷ vs) (list-of-uses us)

module _ (f : File) (words : List (List Pair)) (rows : List Row) (s : State) (stocked : IsStocked f words rows s)
    (pool : pools.IsSound rows) where
  abbrev tree : ℕ → Tree
  tree i = tree_at (word_in words) rows i

  -- ---- nodes
  origin-is : (i : ℕ) → i < length rows → origin (tree i) ≡ origin_at rows i
  origin-is i lt = ap origin (pool.trees_of_uses (word_in words) i lt)

  uses-are : (i : ℕ) → i < length rows → uses (tree i) ≡ map (use_in words rows) (uses_at rows i)
  uses-are i lt =
      ap uses (pool.trees_of_uses (word_in words) i lt) ∙ list-of-uses (map (use_in words rows) (uses_at rows i))

  kind-is : (i : ℕ) → i < length rows → (head_for f (tree i)).kind ≡ kind_at rows i
  kind-is i lt = kind-of-head f (tree i) ∙ ap (kind_of_record f) (origin-is i lt) ∙ stocked.kinds i lt

  pub origins-below : (root : ℕ) → root < length rows → HasOriginsOf f rows root
  origins-below root lt i reached =
      let low = pool.ids_of_subtrees.held root i lt reached in
      stocked.origins i (omega (arith, low, lt))

  -- a node stands for a subtree
  record Node (x : Tree) : Type 0 where
    pub number : ℕ
    pub held : number < length rows
    pub is : tree number ≡ x

  node : (root : ℕ) (x : Tree) → root < length rows → Contains (subtrees (tree root)) x → Node x
  node root x lt m =
      let at = pool.ids_of_subtrees.reached (word_in words) root x lt m in
      let low = pool.ids_of_subtrees.held root at.0 lt at.1 in
      record { number = at.0; held = omega (arith, low, lt); is = at.2 }

  -- a use of a subtree, by numbers
  record NodeUse (x : Tree) (u : Use) : Type 0 where
    pub above : Node x
    pub of : UseOf
    pub is_use : Contains (uses_at rows above.number) of
    pub held : of.id.0 < length rows
    pub placed : of.place.0 < length words
    pub is : use_in words rows of ≡ u

  node-use : (root : ℕ) (x : Tree) (u : Use) → root < length rows → Contains (subtrees (tree root)) x
      → Contains (uses x) u → NodeUse x u
  node-use root x u lt m k =
      let above = node root x lt m in
      let i = above.number in
      let listed : Contains (map (use_in words rows) (uses_at rows i)) u =
      subst (λ us. Contains us u) (sym (ap uses above.is) ∙ uses-are i above.held) k in
      let at = Contains-map_cases (use_in words rows) u (uses_at rows i) listed in
      let below =
      All-contains (λ (v : UseOf). v.id.0 < i) (uses_at rows i) at.0 (pool.uses_are_earlier i above.held) at.1 in
      let high = above.held in
      record {
        above = above;
        of = at.0;
        is_use = at.1;
        held = omega (arith, below, high);
        placed =
            All-contains (λ (v : UseOf). v.place.0 < length words) (uses_at rows i) at.0
            (stocked.loaded.places i above.held) at.1;
        is = at.2;
      }

  -- ---- words
  record Entry (p : ℕ) : Type 0 where
    pub word : List Pair
    pub is : word_in words p ≡ word
    pub among : Contains words word

  entry : (p : ℕ) → p < length words → Entry p
  entry p lt =
      let at = at_place words p lt in
      record { word = at.0; is = ap (λ o. unwrap_or o []) at.1; among = Contains-at words p at.0 at.1 }

  word-among : (p : ℕ) → p < length words → Contains words (word_in words p)
  word-among p lt = (let e = entry p lt in subst (Contains words) (sym e.is) e.among)

  pub word-held : (p : ℕ) → p < length words → IsHeldWord (word_in words p)
  word-held p lt = All-contains IsHeldWord words (word_in words p) stocked.loaded.table.words (word-among p lt)

  tree-among : (i : ℕ) → i < length rows → Contains (trees_of (word_in words) rows) (tree i)
  tree-among i lt = tree-listed (word_in words) rows i lt

  module _ (root : UseOf) (held : IsUseHeld words rows root) where
    abbrev at : Use
    at = use_in words rows root

    of-words : (x : Tree) (u : Use) → Contains (subtrees at.tree) x → Contains (uses x) u
        → IsWordOver (length (datums_of f.locations)) u.word
    of-words x u m k =
        let n = node-use root.id.0 x u held.0 m k in
        let over = stocked.over_datums at.tree (tree-among root.id.0 held.0) x m u k in
        record {
          held = subst (λ (v : Use). IsHeldWord v.word) n.is (word-held n.of.place.0 n.placed);
          over = each-member (λ (p : Pair). IsDatumOf f p.datum) u.word over.1;
        }

    of-kinds : (x : Tree) (u : Use) → Contains (subtrees at.tree) x → Contains (uses x) u
        → IsBelow (head_for f u.tree).kind (head_for f x).kind
    of-kinds x u m k =
        let n = node-use root.id.0 x u held.0 m k in
        let i = n.above.number in
        let below =
        All-contains (λ (v : UseOf). IsBelow (kind_at rows v.id.0) (kind_at rows i)) (uses_at rows i) n.of
        (pool.kinds_of_trees.below i n.above.held) n.is_use in
        subst (λ (y : Tree). IsBelow (head_for f u.tree).kind (head_for f y).kind) n.above.is
        (subst (λ (v : Use). IsBelow (head_for f v.tree).kind (head_for f (tree i)).kind) n.is
        (subst (λ a. IsBelow a (head_for f (tree i)).kind) (sym (kind-is n.of.id.0 n.held))
        (subst (λ b. IsBelow (kind_at rows n.of.id.0) b) (sym (kind-is i n.above.held)) below)))

    of-origins : (x : Tree) → Contains (subtrees at.tree) x
        → (origin x ≡ 0) ⊎ IsNumberOf (length f.records) (origin x)
    of-origins x m =
        let n = node root.id.0 x held.0 m in
        let same : origin_at rows n.number ≡ origin x = sym (origin-is n.number n.held) ∙ ap origin n.is in
        subst (λ o. (o ≡ 0) ⊎ IsNumberOf (length f.records) o) same (stocked.origins n.number n.held)

    module _ (sound : IsSound f) (within : IsWithinLimits f) (renumbering : RenumberingKeepsParts)
        (sections : SectionsHold) (numbers : NumbersArePlaces) (further : FurtherWordsAreDue)
        (written : IsWritten at (flat at.tree)) where
      -- each word under the root is a word of a place or of the table
      among : (w : List Pair) → Contains (words_under f at) w → Contains (words_of f.locations ++ words) w
      among w m = elim (Contains-append_cases (flat_map (words_of_tree f) (flat at.tree)) (at.word ∷ []) w m) [
        | inl k ↦ (let from = Contains-flat_map_cases (words_of_tree f) w (flat at.tree) k in
            elim (Contains-append_cases (words_of_data f (head_for f from.0))
            (map (λ (v : Use). v.word) (uses from.0)) w from.2) [
              | inl own ↦ (let of = Contains-map_cases (word_of_place f.locations) w
                  (data_locations f.version (head_for f from.0).payload) own in
                  Contains-append_left (words_of f.locations) words w
                  (subst (Contains (words_of f.locations)) of.2
                  (sections.word f.locations of.0 (data-within renumbering f sound from.0 of.0 of.1))))
              | inr l ↦ (let used = Contains-map_cases (λ (v : Use). v.word) w (uses from.0) l in
                  let n = node-use root.id.0 from.0 used.0 held.0 (written.lists.stand from.0 from.1) used.1 in
                  Contains-append_right (words_of f.locations) words w
                  (subst (Contains words) (ap (λ (v : Use). v.word) n.is ∙ used.2) (word-among n.of.place.0 n.placed)))
            ])
        | inr k ↦ elim (Contains-cases at.word w [] k) [
          | inl same ↦ Contains-append_right (words_of f.locations) words w
              (subst (Contains words) same (word-among root.place.0 held.1))
          | inr none ↦ absurd (Contains-none w none)
        ]
      ]

      few-words : length words < 2 ^ 57 → length (locations_under f at) < 10 ^ 18
      few-words small =
          let ws = words_under f at in
          let long = numbers.size (datums_of f.locations) (further_words ws) in
          let less =
          length-le_from_distinct (further_words ws) (words_of f.locations ++ words) (further.distinct ws)
          (λ w m. among w (further.from ws w m).0) in
          let parts = length-append (words_of f.locations) words in
          let places = length_is f.locations in
          let datums = sections.few_datums f.locations in
          let entries = within.locations in
          omega (arith, long, less, parts, places, datums, entries, small)

      pub can-be-written : length words < 2 ^ 57 → length (flat at.tree) < 10 ^ 18
          → IsOver (length (datums_of f.locations)) at.word → CanBeWritten f at
      can-be-written small few over = record {
        origins = of-origins;
        in_order = of-kinds;
        words = of-words;
        root_word = record { held = word-held root.place.0 held.1; over = over };
        shallow =
            subst (λ d. d ≤ 512) (sym (pool.depths_of_trees.trees (word_in words) root.id.0))
            (pool.depths_of_trees.within root.id.0);
        countable = few;
        few_words = few-words small;
      }
