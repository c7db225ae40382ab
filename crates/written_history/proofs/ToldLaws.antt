-- A history in numbers tells the history of the trees for which its lists stand.
use Rattle.std.proofs.Common.{◌≡◌, ◌≢◌, ◌<◌, ◌∙◌, ◌-◌, refl, ap, sym, subst, arith, ℕ, List, [], ◌∷◌, map, reverse}
use Rattle.std.specs.Prelude.{All, Contains, length, slice_get, unwrap_or, Some}
use Rattle.std.specs.Option.{option_map}
use Rattle.std.proofs.lemmas.List.{length-map}
use Rattle.std.proofs.lemmas.Option.{slice_get-map, slice_get_within}
use Rattle.lists.proofs.Members.{Contains-map_cases, map-map}
use Rattle.lists.proofs.Places.{place_of}
use Rattle.lists.proofs.Entries.{All-place}
use Rattle.orientation.specs.declared.kind.Kind.{Kind}
use Rattle.location_words.specs.declared.pair.Pair.{Pair}
use Rattle.expansion_laws.specs.Expansion.{IsFile, IsNumberOf}
use Rattle.expansion_laws.specs.Measures.{OccursIn}
use Rattle.expansion_laws.specs.Trees.{Tree, Use, origin, tree_of}
use Rattle.expansion_laws.specs.Walk.{RecordsAreTrees}
use Rattle.expansion_laws.specs.Written.{flat, IsWritten}
use Rattle.history_text.specs.declared.file.HistoryFile.{HistoryFile}
use Rattle.lists.specs.Gathering.{Gathers}
use Rattle.shape_pool.specs.declared.node.NodeId.{NodeId}
use Rattle.shape_pool.specs.Laws.{IsSound as IsSoundPool, word_in}
use Rattle.shape_pool.specs.Rows.{Row, origin_at, tree_at}
use Rattle.step_history.specs.declared.history.StepHistory.{StepHistory}
use Rattle.step_history.specs.Composition.{Done, root_after, history_after, PairsOfRowsStand, PairsStand}
use Rattle.step_history.specs.History.{History, ListsPairs, ListsTrees}
use Rattle.step_history.specs.Numbered.{AreHeld, ArePairsHeld, tree_by}
use Rattle.brep_file.specs.declared.file.File.{File}
use Rattle.brep_file.specs.PlainRecords.{expansion_of, plain_records, plain_root, tree_of_record}
use Rattle.written_order.specs.Orders.{IsOrderOf}
use Rattle.written_order.specs.Placed.{IsNumbered}
use Rattle.written_history.specs.Numbered.{kind_of, IsChangeOf, IsInNumbers, IsLeft, IsOriginOf, IsPairOf, IsToldAfter, TellsSteps}
use Rattle.written_history.specs.Told.{origins_written, tree_written, AreInRange, ArePairsOf, AreNumbersOf}

-- the place that is as far from the end as another one is from the end
twice : (n p : ℕ) → p < n → n - (n - p) ≡ p
twice n p lt = omega (arith, lt)

-- what is removed by steps in a row is of the first root
removed-stands : (kind : Tree → Kind) (first : Use) (steps : List Done) (t : Tree)
    → (history_after kind first steps).removed t → OccursIn t first.tree
removed-stands kind first [] t gone = absurd gone
removed-stands kind first (d ∷ ds) t gone = gone.1

-- a fact of all of a list holds of one of it
one-of : {X : Type 0} (P : X → Type 0) (xs : List X) (x : X) → All P xs → Contains xs x → P x
one-of P xs x all contains = let at = place_of xs x contains in All-place P xs at.0 x all at.1

module _ (rows : List Row) (laws : IsSoundPool rows)
    (trees : (f : File) → IsFile (plain_records f) (plain_root f) → RecordsAreTrees (plain_records f))
    (written : (root : Use) → IsWritten root (flat root.tree))
    (stand : PairsOfRowsStand) (f : File) (words : List (List Pair)) (root : ℕ) (order : List ℕ) (steps : List Done)
    (h : StepHistory) (file : HistoryFile) (given : IsToldAfter f words rows steps h)
    (is_file : IsFile (plain_records f) (plain_root f)) (ordered : IsOrderOf rows root order)
    (is_root : IsLeft f words rows steps root) (numbered : IsInNumbers rows order h file) where
  -- the root that the steps leave, and their history
  abbrev at : Use
  at = root_after (expansion_of f) steps

  abbrev told : History
  told = history_after (kind_of f) (expansion_of f) steps

  between : PairsStand (kind_of f) (expansion_of f) steps
  between = stand (kind_of f) (expansion_of f) steps given.in_row

  abbrev tree : ℕ → Tree
  tree i = tree_at (word_in words) rows i

  -- ---- trees of the input
  is-record : (t : Tree) → OccursIn t (expansion_of f).tree → IsNumberOf (length f.records) (origin t) × (t ≡ tree_of_record f (origin t))
  is-record t occurs =
      let law = trees f is_file in
      let below = law.below f.root.number t is_file.names_root occurs in
      (subst (λ n. IsNumberOf n (origin t)) (length-map f.records _) below.0, below.1)

  origin-is : (i : ℕ) → i < length rows → origin (tree i) ≡ origin_at rows i
  origin-is i lt = ap origin (laws.trees_of_uses (word_in words) i lt)

  -- ---- written trees
  all-written : map tree order ≡ flat at.tree
  all-written = ordered.trees words given.loaded.table given.loaded.places ∙ ap flat (sym is_root)

  as-many : length order ≡ length (flat at.tree)
  as-many = sym (length-map order tree) ∙ ap length all-written

  stands-there : (s n : ℕ) → IsNumbered order s n → tree_written at n ≡ tree s
  stands-there s n is =
      let there : slice_get (flat at.tree) (length (flat at.tree) - n) ≡ Some (tree s) =
      ap (λ m. slice_get (flat at.tree) (m - n)) (sym as-many)
      ∙ ap (λ l. slice_get l (length order - n)) (sym all-written)
      ∙ slice_get-map tree order (length order - n)
      ∙ ap (option_map tree) is.at in
      ap (λ o. unwrap_or o (tree_of 0 [])) there

  in-range : (s n : ℕ) → IsNumbered order s n → IsNumberOf (length (flat at.tree)) n
  in-range s n is = subst (λ m. IsNumberOf m n) as-many is.within

  -- a held number whose tree occurs in the root is written
  is-written : (s : ℕ) → s < length rows → OccursIn (tree s) at.tree → (n : ℕ) × IsNumbered order s n
  is-written s lt occurs =
      let there : Contains (map tree order) (tree s) =
      subst (λ l. Contains l (tree s)) (sym all-written) ((written at).lists.all (tree s) occurs) in
      let found = Contains-map_cases tree (tree s) order there in
      let held : found.0 < length rows = one-of (λ i. i < length rows) order found.0 ordered.held found.1 in
      let same : found.0 ≡ s =
      (laws.ids_tell_trees_by words given.loaded.table given.loaded.places found.0 s held lt).1 found.2 in
      let place = place_of order found.0 found.1 in
      let low = slice_get_within order place.0 found.0 place.1 in (
        length order - place.0,
        record {
          within = (omega (arith, low), omega (arith, low));
          at = ap (slice_get order) (twice (length order) place.0 (omega (arith, low))) ∙ place.1 ∙ ap Some same;
        },
      )

  -- ---- pairs
  module _ (R : Tree → Tree → Type 0) (pairs : List (NodeId × NodeId)) (lists : ListsPairs (tree_by (word_in words) rows) pairs R)
      (held : ArePairsHeld rows pairs)
      (between : (t x : Tree) → R t x → OccursIn t (expansion_of f).tree × OccursIn x at.tree) where
    pair-held : (p : NodeId × NodeId) → Contains pairs p → (p.0.0 < length rows) × (p.1.0 < length rows)
    pair-held p contains = one-of (λ q. (q.0.0 < length rows) × (q.1.0 < length rows)) pairs p held contains

    -- the first tree of a pair is that of the record of its origin
    first-is : (p : NodeId × NodeId) → Contains pairs p
        → IsNumberOf (length f.records) (origin_at rows p.0.0) × (tree_of_record f (origin_at rows p.0.0) ≡ tree p.0.0)
    first-is p contains =
        let own = origin-is p.0.0 (pair-held p contains).0 in
        let own-record = is-record (tree p.0.0) (between (tree p.0.0) (tree p.1.0) (lists.0 p contains)).0 in (
          subst (IsNumberOf (length f.records)) own own-record.0,
          sym (subst (λ k. tree p.0.0 ≡ tree_of_record f k) own own-record.1),
        )

    -- numbers of a pair stand for its trees
    tells-pair : (p : NodeId × NodeId) (y : ℕ × ℕ) → Contains pairs p → IsPairOf rows order p y
        → AreInRange f at y × (tree_of_record f y.0 ≡ tree p.0.0) × (tree_written at y.1 ≡ tree p.1.0)
    tells-pair p y contains is =
        let first = first-is p contains in (
          (subst (IsNumberOf (length f.records)) (sym is.0) first.0, in-range p.1.0 y.1 is.1),
          ap (tree_of_record f) is.0 ∙ first.1,
          stands-there p.1.0 y.1 is.1,
        )

    -- each pair of trees has numbers
    has-numbers : (t x : Tree) → R t x
        → (p : NodeId × NodeId) × (y : ℕ × ℕ) × Contains pairs p × IsPairOf rows order p y × (tree p.0.0 ≡ t) × (tree p.1.0 ≡ x)
    has-numbers t x r =
        let found = lists.1 t x r in
        let p = found.0 in
        let n = is-written p.1.0 (pair-held p found.1).1 (subst (λ z. OccursIn z at.tree) (sym found.3) (between t x r).1) in
        (p, (origin_at rows p.0.0, n.0), found.1, (refl, n.1), found.2, found.3)

    -- all pairs
    tells-pairs : (ys : List (ℕ × ℕ)) → Gathers (IsPairOf rows order) pairs ys → ArePairsOf f at R ys
    tells-pairs ys gathers = record {
      in_range = λ y contains.
          let from = (gathers y).0 contains in (tells-pair from.0 y from.1 from.2).0;
      each = λ y contains.
          let from = (gathers y).0 contains in
          let tells = tells-pair from.0 y from.1 from.2 in
          subst (λ a. R a (tree_written at y.1)) (sym tells.1) (subst (R (tree from.0.0.0)) (sym tells.2) (lists.0 from.0 from.1));
      all = λ t x r.
          let has = has-numbers t x r in
          let tells = tells-pair has.0 has.1 has.2 has.3 in
          (has.1, (gathers has.1).1 (has.0, has.2, has.3), tells.1 ∙ has.4, tells.2 ∙ has.5);
    }

    -- those of different trees
    tells-changes : (ys : List (ℕ × ℕ)) → Gathers (IsChangeOf rows order) pairs ys
        → ArePairsOf f at (λ t x. R t x × (t ≢ x)) ys
    tells-changes ys gathers = record {
      in_range = λ y contains.
          let from = (gathers y).0 contains in (tells-pair from.0 y from.1 from.2.1).0;
      each = λ y contains.
          let from = (gathers y).0 contains in
          let tells = tells-pair from.0 y from.1 from.2.1 in
          let held = pair-held from.0 from.1 in (
            subst (λ a. R a (tree_written at y.1)) (sym tells.1) (subst (R (tree from.0.0.0)) (sym tells.2) (lists.0 from.0 from.1)),
            λ same. from.2.0
                ((laws.ids_tell_trees_by words given.loaded.table given.loaded.places from.0.0.0 from.0.1.0 held.0 held.1).1
                (sym tells.1 ∙ same ∙ tells.2)),
          );
      all = λ t x r.
          let has = has-numbers t x r.0 in
          let tells = tells-pair has.0 has.1 has.2 has.3 in
          let differ : has.0.0.0 ≢ has.0.1.0 = λ same. r.1 (sym has.4 ∙ ap tree same ∙ has.5) in
          (has.1, (gathers has.1).1 (has.0, has.2, (differ, has.3)), tells.1 ∙ has.4, tells.2 ∙ has.5);
    }

  -- ---- removed trees
  tells-removed : (P : Tree → Type 0) (ids : List NodeId) (ks : List ℕ) → ListsTrees (tree_by (word_in words) rows) ids P
      → AreHeld rows ids → ((t : Tree) → P t → OccursIn t (expansion_of f).tree)
      → Gathers (IsOriginOf rows) ids ks → AreNumbersOf f P ks
  tells-removed P ids ks lists held between gathers = record {
    in_range = λ k contains.
        let from = (gathers k).0 contains in (removed-is from.0 k from.1 from.2).0;
    each = λ k contains.
        let from = (gathers k).0 contains in
        subst P (sym (removed-is from.0 k from.1 from.2).1) (lists.0 from.0 from.1);
    all = λ t p.
        let found = lists.1 t p in
        let own = origin_at rows found.0.0 in
        (own, (gathers own).1 (found.0, found.1, refl), (removed-is found.0 own found.1 refl).1 ∙ found.2);
  } where
    removed-is : (i : NodeId) (k : ℕ) → Contains ids i → k ≡ origin_at rows i.0
        → IsNumberOf (length f.records) k × (tree_of_record f k ≡ tree i.0)
    removed-is i k contains is =
        let own = origin-is i.0 (one-of (λ (j : NodeId). j.0 < length rows) ids i held contains) in
        let own-record = is-record (tree i.0) (between (tree i.0) (lists.0 i contains)) in (
          subst (IsNumberOf (length f.records)) (own ∙ sym is) own-record.0,
          sym (subst (λ m. tree i.0 ≡ tree_of_record f m) (own ∙ sym is) own-record.1),
        )

  -- ---- origins
  origins-are : reverse (map (origin_at rows) order) ≡ origins_written at
  origins-are = ap reverse
      (sym (map-map tree origin (origin_at rows) order
      (λ i contains. origin-is i (one-of (λ j. j < length rows) order i ordered.held contains)))
      ∙ ap (map origin) all-written)

  pub tells-history : TellsSteps f steps file
  tells-history = record {
    origins = numbered.origins ∙ origins-are;
    modified_are = tells-changes told.images h.images given.tells.images given.held.images between.images
        file.modified numbered.modified;
    generated_are = tells-pairs told.generated h.generated given.tells.generated given.held.generated
        between.generated file.generated numbered.generated;
    removed_are = tells-removed told.removed h.removed file.removed given.tells.removed given.held.removed
        (removed-stands (kind_of f) (expansion_of f) steps) numbered.removed;
    ascends = numbered.ascends;
  }
