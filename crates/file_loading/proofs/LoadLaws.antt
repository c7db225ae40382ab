-- Loading records one after another.
use Rattle.std.proofs.Common.{◌≡◌, ◌<◌, ◌≤◌, ◌+◌, ◌-◌, ◌∙◌, zero, suc, refl, sym, subst, ap, arith, max, inl, inr}
use Rattle.std.specs.Prelude.{ℕ, List, [], ◌∷◌, ◌++◌, All, Some, length, map, slice_get}
use Rattle.std.specs.Prelude.{unwrap_or}
use Rattle.std.specs.Option.{option_map_or}
use Rattle.std.proofs.lemmas.Bool.{cases_lt}
use Rattle.std.proofs.lemmas.List.{length-map, length_push}
use Rattle.std.proofs.lemmas.List.Elements.{All-contains}
use Rattle.lists.proofs.Each.{All-from_members}
use Rattle.lists.proofs.Places.{Contains-at, at_place, by_places, place_of, same_entry}
use Rattle.location_words.specs.declared.pair.Pair.{Pair}
use Rattle.location_words.specs.declared.table.WordId.{WordId}
use Rattle.location_words.specs.Tables.{IsTable}
use Rattle.location_table.specs.Words.{word_of_place}
use Rattle.orientation.specs.Kinds.{IsBelow}
use Rattle.orientation.specs.declared.kind.Kind.{Kind}
use Rattle.orientation.specs.declared.kind.Kind.TheVariants.{Co}
use Rattle.expansion_laws.specs.Expansion.{IsNumberOf, expanded, trees_of_file}
use Rattle.expansion_laws.specs.Measures.{depth, uses_depth}
use Rattle.expansion_laws.specs.Trees.{Tree, Use, Uses, a_single, a_use, list_of, no_use, node, origin, tree_of, uses}
use Rattle.expansion_laws.specs.Trees.{uses_of}
use Rattle.expansion_laws.specs.Walk.{RecordsAreTrees}
use Rattle.shape_pool.specs.declared.node.UseOf.{UseOf}
use Rattle.shape_pool.specs.declared.fault.PoolFault.{PoolFault}
use Rattle.shape_pool.specs.declared.fault.PoolFault.TheVariants.{TooDeep, TooMany}
use Rattle.shape_pool.specs.Calls.{IsLoaded, IsNode, IsRefused, IsTreeOver, Keeps, KeepsPlaces}
use Rattle.shape_pool.specs.Laws.{IsSound as IsSoundPool, word_in}
use Rattle.shape_pool.specs.Rows.{HaveKinds}
use Rattle.shape_pool.specs.Rows.{Row, AllBelow, AllHeld, AllPlaced, depth_at, depth_over, greatest, kind_at}
use Rattle.shape_pool.specs.Rows.{most_depth, most_nodes, origin_at, tree_at, use_by}
use Rattle.brep_file.specs.PlainRecords.{plain_records, plain_use, record_of, tree_of_record}
use Rattle.brep_file.specs.Sound.{IsRecord, IsSound, IsUse}
use Rattle.brep_file.specs.declared.file.File.{File}
use Rattle.brep_file.specs.declared.records.Record.{Record}
use Rattle.brep_file.specs.declared.uses.FileUse.{FileUse}
use Rattle.file_loading.specs.Loading.{kind_of_record}
use Rattle.file_loading.specs.Loading.{AreLoadedUses, HasOriginsOf, IsLoadedFrom, IsLoadedTo, IsLoadedUse, use_in}
use Rattle.file_loading.specs.Places.{HoldWordsOf}
use Rattle.file_loading.proofs.UseLaws.{some-lt}

-- ---- lists
mapped : {X Y : Type 0} (f : X → Y) (xs : List X) (i : ℕ) (x : X) → slice_get xs i ≡ Some x
    → slice_get (map f xs) i ≡ Some (f x)
mapped f [] i x e = absurd cc
mapped f (y ∷ xs) zero x e = ap Some (ap f (ap (λ o. unwrap_or o y) e))
mapped f (y ∷ xs) (suc i) x e = mapped f xs i x e

-- ---- depths
greatest-same : (f g : ℕ → ℕ) → ((i : ℕ) → f i ≡ g i) → (us : List UseOf) → greatest f us ≡ greatest g us
greatest-same f g same [] = refl
greatest-same f g same (u ∷ us) = λ i. max (same u.id.0 i) (greatest-same f g same us i)

depth-uses : (word : ℕ → List Pair) (tree : ℕ → Tree) (us : List UseOf)
    → uses_depth (uses_of (map (use_by word tree) us)) ≡ greatest (λ i. depth (tree i)) us
depth-uses word tree [] = refl
depth-uses word tree (u ∷ us) = ap (max (depth (tree u.id.0))) (depth-uses word tree us)

depth-of : (rows : List Row) → IsSoundPool rows → (word : ℕ → List Pair) (o : ℕ) (us : List UseOf)
    → depth (tree_of o (map (use_by word (tree_at word rows)) us)) ≡ depth_over rows us
depth-of rows laws word o us =
    ap suc (depth-uses word (tree_at word rows) us
    ∙ greatest-same (λ i. depth (tree_at word rows i)) (depth_at rows)
    (λ i. laws.depths_of_trees.trees word i) us)

-- ---- trees
uses_of-list_of : (us : Uses) → uses_of (list_of us) ≡ us
uses_of-list_of no_use = refl
uses_of-list_of (a_use t w x others) = ap (a_use t w x) (uses_of-list_of others)

whole-tree : (x : Tree) → tree_of (origin x) (uses x) ≡ x
whole-tree (node k us) = ap (node k) (uses_of-list_of us)

module _ (f : File) (words : List (List Pair)) (rows : List Row) (ids : List WordId) (count : ℕ)
    (held : HoldWordsOf f.locations words ids) (to : IsLoadedTo f words rows count) where
  -- a use by numbers stands for the use that it was loaded from
  pub use-same : (u : FileUse) (v : UseOf) → u.number ≤ length f.records → length f.records - u.number < count
      → u.location ≤ length f.locations → IsLoadedUse (length f.records) ids u v
      → use_in words rows v ≡ expanded 1 (trees_of_file (plain_records f)) (plain_use f.locations u)
  use-same u v named lt located l =
      let size = held.size in
      let word : word_in words v.place.0 ≡ word_of_place f.locations u.location =
      ap (λ (p : WordId). unwrap_or (slice_get words p.0) []) (l.place v.place (omega (arith, located, size)))
      ∙ ap (λ o. unwrap_or o []) (held.words u.location v.place (omega (arith, located))) in
      let tree : tree_at (word_in words) rows v.id.0 ≡ tree_of_record f u.number =
      ap (tree_at (word_in words) rows) l.id ∙ to.trees (length f.records - u.number) lt
      ∙ ap (tree_of_record f) (let e : length f.records - (length f.records - u.number) ≡ u.number =
      omega (arith, named) in e) in
      λ i. a_single (l.turn i) (word i) (tree i)

  pub place-held : (u : FileUse) (v : UseOf) → u.location ≤ length f.locations
      → IsLoadedUse (length f.records) ids u v → v.place.0 < length words
  place-held u v located l =
      let size = held.size in
      subst (λ (p : WordId). p.0 < length words) (sym (l.place v.place (omega (arith, located, size))))
      (some-lt words _ _ (held.words u.location v.place (omega (arith, located))))

-- ---- one record more
module _ (f : File) (words : List (List Pair)) (rows : List Row) (ids : List WordId) (at : ℕ) (r : Record)
    (sound : IsSound f) (below : at < length f.records) (held : HoldWordsOf f.locations words ids)
    (to : IsLoadedTo f words rows at) (laws : IsSoundPool rows) (trees : RecordsAreTrees (plain_records f))
    (is : record_of f (length f.records - at) ≡ Some r) where
  own-number : IsNumberOf (length f.records) (length f.records - at)
  own-number = (omega (arith, below), omega arith)

  own-record : IsRecord f (length f.records - at) r
  own-record = sound.records (length f.records - at) r own-number is

  pub uses-numbered : All (λ (u : FileUse). u.number ≤ length f.records) r.uses
  uses-numbered k d lt = (own-record.uses k d lt).named

  pub uses-placed : All (λ (u : FileUse). u.location < length ids) r.uses
  uses-placed k d lt =
      let size = held.size in let located = (own-record.uses k d lt).location in omega (arith, located, size)

  pub is-new : IsLoaded rows (length f.records - at) → ⊥
  is-new h =
      let size = to.size in let lt = h.2.0 in let same = h.2.1 in
      let own = to.origins h.1 (omega (arith, lt, size)) in omega (arith, own, same, lt, size, below)

  module _ (vs : List UseOf) (loaded : AreLoadedUses (length f.records) ids r.uses vs) where
    partner : (i : ℕ) (v : UseOf) → slice_get vs i ≡ Some v
        → (u : FileUse) × (slice_get r.uses i ≡ Some u) × IsUse f (length f.records - at) r.head.kind u
        × IsLoadedUse (length f.records) ids u v
    partner i v e =
        let short = some-lt vs i v e in let size = loaded.size in
        let u = at_place r.uses i (omega (arith, short, size)) in (
          u.0,
          u.1,
          All-contains (IsUse f (length f.records - at) r.head.kind) r.uses u.0 own-record.uses
              (Contains-at r.uses i u.0 u.1),
          loaded.each i u.0 v u.1 e,
        )

    earlier : (u : FileUse) → IsUse f (length f.records - at) r.head.kind u → length f.records - u.number < at
    earlier u one = let above = one.above in let named = one.named in omega (arith, above, named, below)

    pub uses-held : AllHeld rows vs
    uses-held = All-from_members (λ (v : UseOf). v.id.0 < length rows) vs (λ v there.
        let i = place_of vs v there in let p = partner i.0 v i.1 in
        let lt = earlier p.0 p.2 in let e = p.3.id in let size = to.size in omega (arith, lt, e, size))

    pub uses-below : AllBelow rows r.head.kind vs
    uses-below = All-from_members (λ (v : UseOf). IsBelow (kind_at rows v.id.0) r.head.kind) vs (λ v there.
        let i = place_of vs v there in let p = partner i.0 v i.1 in
        let lt = earlier p.0 p.2 in
        let s = at_place f.records (length f.records - p.0.number) (omega (arith, lt, below)) in
        subst (λ (k : Kind). IsBelow k r.head.kind)
        (sym (ap (kind_at rows) p.3.id ∙ to.kinds (length f.records - p.0.number) s.0 lt s.1))
        (p.2.in_order s.0 s.1))

    uses-in : AllPlaced (length words) vs
    uses-in = All-from_members (λ (v : UseOf). v.place.0 < length words) vs (λ v there.
        let i = place_of vs v there in let p = partner i.0 v i.1 in
        place-held f words rows ids at held to p.0 v p.2.location p.3)

    uses-same : map (use_by (word_in words) (tree_at (word_in words) rows)) vs
        ≡ map (expanded 1 (trees_of_file (plain_records f))) (map (plain_use f.locations) r.uses)
    uses-same =
        let from : UseOf → Use = use_by (word_in words) (tree_at (word_in words) rows) in
        let on = expanded 1 (trees_of_file (plain_records f)) in
        let one = length-map vs from in let two = length-map (map (plain_use f.locations) r.uses) on in
        let three = length-map r.uses (plain_use f.locations) in let size = loaded.size in
        by_places (map from vs) (map on (map (plain_use f.locations) r.uses)) (omega (arith, one, two, three, size))
        (λ i x e.
        let short = some-lt (map from vs) i x e in
        let v = at_place vs i (omega (arith, short, one)) in
        let p = partner i v.0 v.1 in
        let same : use_in words rows v.0 ≡ on (plain_use f.locations p.0) =
        use-same f words rows ids at held to p.0 v.0 p.2.named (earlier p.0 p.2) p.2.location p.3 in
        mapped on (map (plain_use f.locations) r.uses) i (plain_use f.locations p.0)
        (mapped (plain_use f.locations) r.uses i p.0 p.1)
        ∙ ap Some (sym same) ∙ sym (mapped from vs i v.0 v.1) ∙ e)

    tree-is : tree_of (length f.records - at) (map (use_by (word_in words) (tree_at (word_in words) rows)) vs)
        ≡ tree_of_record f (length f.records - at)
    tree-is =
        let own : ℕ = length f.records - at in
        let plain = λ (s : Record). map (plain_use f.locations) s.uses in
        let long : length (plain_records f) ≡ length f.records = length-map f.records plain in
        let number : IsNumberOf (length (plain_records f)) own = subst (λ m. IsNumberOf m own) (sym long) own-number in
        let there : slice_get (plain_records f) (length (plain_records f) - own) ≡ Some (plain r) =
        ap (λ m. slice_get (plain_records f) (m - own)) long ∙ mapped plain f.records (length f.records - own) r is in
        ap (tree_of own) (uses-same ∙ sym (trees.same_uses own (plain r) number there))
        ∙ ap (λ k. tree_of k (uses (tree_of_record f own))) (sym (trees.origins own number))
        ∙ whole-tree (tree_of_record f own)

    pub uses-shallow : depth_over rows vs ≤ 512
    uses-shallow =
        let own = depth-of rows laws (word_in words) (length f.records - at) vs in
        let same = ap depth tree-is in
        let few = sound.depths (length f.records - at) own-number in
        omega (arith, own, same, few)

    pub loaded-on : (new : List Row) (m : ℕ) → m ≡ length rows → length new ≡ length rows + 1
        → IsNode new r.head.kind (length f.records - at) vs m → Keeps rows new
        → IsTreeOver rows (length f.records - at) vs new m → KeepsPlaces rows vs new
        → IsLoadedTo f words new (at + 1)
    loaded-on new m here long made keeps over places = record {
      size = let size = to.size in omega (arith, long, size);
      origins = λ i lt.
          let size = to.size in
          elim (cases_lt i at) [
            | inl first ↦ keeps.origins i (omega (arith, first, size)) ∙ to.origins i first
            | inr last ↦ (let same : i ≡ m = omega (arith, last, lt, here, size) in
                let own : i ≡ at = omega (arith, last, lt) in
                ap (origin_at new) same ∙ made.origin ∙ ap (λ k. length f.records - k) (sym own))
          ];
      kinds = λ i s lt e.
          let size = to.size in
          elim (cases_lt i at) [
            | inl first ↦ keeps.kinds i (omega (arith, first, size)) ∙ to.kinds i s first e
            | inr last ↦ (let same : i ≡ m = omega (arith, last, lt, here, size) in
                let own : length f.records - (length f.records - at) ≡ i = omega (arith, last, lt, below) in
                ap (kind_at new) same ∙ made.kind
                ∙ ap (λ (t : Record). t.head.kind) (same_entry is (ap (slice_get f.records) own ∙ e)))
          ];
      trees = λ i lt.
          let size = to.size in
          elim (cases_lt i at) [
            | inl first ↦ keeps.trees (word_in words) i (omega (arith, first, size)) ∙ to.trees i first
            | inr last ↦ (let same : i ≡ m = omega (arith, last, lt, here, size) in
                let own : i ≡ at = omega (arith, last, lt) in
                ap (tree_at (word_in words) new) same ∙ over (word_in words) ∙ tree-is
                ∙ ap (λ k. tree_of_record f (length f.records - k)) (sym own))
          ];
      places = places (length words) to.places uses-in;
    }

-- ---- all records
pub none-loaded : (f : File) (words : List (List Pair)) → IsLoadedTo f words [] 0
none-loaded f words = record {
  size = refl;
  origins = λ i lt. absurd (omega (arith, lt));
  kinds = λ i r lt e. absurd (omega (arith, lt));
  trees = λ i lt. absurd (omega (arith, lt));
  places = λ i lt. absurd (omega (arith, lt));
}

pub all-loaded : (f : File) (words : List (List Pair)) (rows : List Row) → IsTable words
    → IsLoadedTo f words rows (length f.records) → IsLoadedFrom f words rows
all-loaded f words rows table to = record {
  table = table;
  places = to.places;
  loaded = λ k n.
      let low = n.0 in let high = n.1 in let size = to.size in
      let lt : length f.records - k < length f.records = omega (arith, low, high) in (
        low,
        length f.records - k,
        (
          omega (arith, lt, size),
          (let own = to.origins (length f.records - k) lt in omega (arith, own, low, high)),
        ),
      );
  trees = λ k i n named.
      let size = to.size in let short = named.1.0 in let lt : i < length f.records = omega (arith, short, size) in
      to.trees i lt ∙ ap (tree_of_record f) (sym (to.origins i lt) ∙ named.1.1);
  kinds = λ k i r is n named.
      let size = to.size in let short = named.1.0 in let lt : i < length f.records = omega (arith, short, size) in
      let own = to.origins i lt in let same = named.1.1 in
      let there : length f.records - k ≡ i = omega (arith, own, same, lt) in
      to.kinds i r lt (ap (slice_get f.records) (sym there) ∙ is);
}

pub origins-loaded : (f : File) (words : List (List Pair)) (rows : List Row) (root : ℕ) → IsSoundPool rows
    → IsLoadedTo f words rows (length f.records) → root < length rows → HasOriginsOf f rows root
origins-loaded f words rows root laws to held i reach =
    let size = to.size in
    let within = laws.ids_of_subtrees.held root i held reach in
    let lt : i < length f.records = omega (arith, within, held, size) in
    let own = to.origins i lt in
    inr (subst (λ k. IsNumberOf (length f.records) k) (sym own) (omega (arith, lt), omega arith))

-- the kinds of records are those of nodes
pub kinds-loaded : (f : File) (words : List (List Pair)) (rows : List Row) → IsLoadedTo f words rows (length f.records)
    → HaveKinds rows (kind_of_record f)
kinds-loaded f words rows to i short =
    let size = to.size in let lt : i < length f.records = omega (arith, short, size) in
    let r = at_place f.records i lt in
    let there : length f.records - (length f.records - i) ≡ i = omega (arith, lt) in
    ap (kind_of_record f) (to.origins i lt)
    ∙ ap (λ k. option_map_or (λ (s : Record). s.head.kind) (slice_get f.records k) Co) there
    ∙ ap (λ o. option_map_or (λ (s : Record). s.head.kind) o Co) r.1
    ∙ sym (to.kinds i r.0 lt r.1)

-- ---- by other names
pub loaded-as : (n m : ℕ) (ids : List WordId) (us us' : List FileUse) (vs vs' : List UseOf) → n ≡ m → us ≡ us'
    → vs' ≡ vs → AreLoadedUses n ids us vs → AreLoadedUses m ids us' vs'
loaded-as n m ids us us' vs vs' count same items h =
    subst (λ k. AreLoadedUses k ids us' vs') count
    (subst (λ x. AreLoadedUses n ids x vs') same (subst (λ x. AreLoadedUses n ids us x) (sym items) h))

pub use-as : (n m : ℕ) (ids : List WordId) (u : FileUse) (v : UseOf) → n ≡ m → IsLoadedUse n ids u v
    → IsLoadedUse m ids u v
use-as n m ids u v count h = subst (λ k. IsLoadedUse k ids u v) count h

pub whole : (f : File) (words : List (List Pair)) (rows : List Row) (at n : ℕ) → n ≡ length f.records → n ≤ at
    → at ≤ n → IsLoadedTo f words rows at → IsLoadedTo f words rows (length f.records)
whole f words rows at n count all no_more h =
    let e : at ≡ length f.records = omega (arith, count, all, no_more) in
    subst (IsLoadedTo f words rows) e h

pub record-is : (f : File) (n at : ℕ) (r : Record) → n ≡ length f.records → record_of f (n - at) ≡ Some r
    → record_of f (length f.records - at) ≡ Some r
record-is f n at r count e = ap (λ m. record_of f (m - at)) (sym count) ∙ e

pub one-more : (old new : List Row) (row : Row) → new ≡ old ++ row ∷ [] → length new ≡ length old + 1
one-more old new row is = let long : length new ≡ length (old ++ row ∷ []) = ap (λ (l : List Row). length l) is in
    long ∙ length_push old row

-- ---- what a load is not refused for
pub never-many : (rows : List Row) (o : ℕ) (vs : List UseOf) (fault : PoolFault) (n : ℕ) → fault ≡ TooMany n
    → IsRefused rows o vs fault → length rows < most_nodes → ⊥
never-many rows o vs fault n is refused few =
    let many : length rows ≡ most_nodes = (subst (IsRefused rows o vs) is refused).2 in omega (arith, many, few)

pub never-deep : (rows : List Row) (o : ℕ) (vs : List UseOf) (fault : PoolFault) (n : ℕ) → fault ≡ TooDeep n
    → IsRefused rows o vs fault → depth_over rows vs ≤ 512 → ⊥
never-deep rows o vs fault n is refused few =
    let deep : most_depth < depth_over rows vs = (subst (IsRefused rows o vs) is refused).0 in omega (arith, deep, few)
