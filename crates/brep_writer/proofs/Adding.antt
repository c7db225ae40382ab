-- The words of nodes, added one after another.
use Rattle.std.proofs.Common.{◌≡◌, ◌<◌, ◌≤◌, ◌+◌, sym, ◌∙◌, ap, subst, add-one}
use Rattle.std.specs.Prelude.{ℕ, Some, List, [], ◌∷◌, ◌++◌, All, Contains, length, map, slice_get, slice_index_or}
use Rattle.std.specs.Prelude.{unwrap_or}
use Rattle.std.specs.Prelude.{fold, take, Result, Ok, Err, OnOk}
use Rattle.std.specs.List.{flat_map}
use Rattle.std.proofs.lemmas.Grind.{flat_map-append}
use Rattle.std.proofs.Math.Seq.{take-suc}
use Rattle.std.proofs.lemmas.List.{append-nil, map-append}
use Rattle.std.proofs.lemmas.List.Sums.{fold-append}
use Rattle.std.proofs.lemmas.List.Elements.{All-contains, Contains-get_or}
use Rattle.std.proofs.lemmas.List.Folds.{flat_map-map}
use Rattle.std.proofs.lemmas.Simd.{map-map}
use Rattle.lists.proofs.Entries.{slice_get-mapped}
use Rattle.lists.proofs.Members.{Contains-flat_map, Contains-here, Contains-map}
use Rattle.lists.proofs.Places.{take-at, Contains-at}
use Rattle.location_table.specs.Words.{word_of_place}
use Rattle.location_words.specs.declared.pair.Pair.{Pair}
use Rattle.expansion_laws.specs.Trees.{Use}
use Rattle.expansion_laws.specs.Written.{flat}
use Rattle.shape_pool.specs.declared.node.NodeId.{NodeId}
use Rattle.shape_pool.specs.declared.node.UseOf.{UseOf}
use Rattle.shape_pool.specs.Laws as pools
use Rattle.shape_pool.specs.Rows.{uses_at}
use Rattle.tshape_data.specs.Laws.{RenumberingKeepsParts}
use Rattle.tshape_data.specs.Locations.{data_locations}
use Rattle.tshape_data.specs.Sound.{IsSoundHead}
use Rattle.tshape_data.specs.declared.head.Head.{Head}
use Rattle.brep_file.specs.Sound.{sizes_of}
use Rattle.written_locations.specs.declared.written.WrittenLocations.{WrittenLocations}
use Rattle.written_locations.specs.Added.{further_of, word_at, word_of_id, Adds, AddsAll, AddsWords}
use Rattle.written_locations.specs.Further.{with_word}
use Rattle.written_locations.specs.Laws.{AddedPartsJoin}
use Rattle.written_order.specs.Orders.{IsOrderOf}
use Rattle.brep_writer.specs.declared.source.Source.{Source}
use Rattle.brep_writer.specs.Located.{AddsNode, AddsNodes, AreLocated, IsOver}
use Rattle.brep_writer.specs.Sources.{data_in, head_in, tree_in, use_of, words_in, IsLoadedSource}
use Rattle.brep_writer.specs.WrittenFile.{words_of_data, words_of_tree}
use Rattle.brep_writer.proofs.Heads.{uses-are}

-- ---- items
pub item-there : (ids : List NodeId) (numbers : List ℕ) (k : ℕ) (d : NodeId) → k < length ids
    → map (λ (n : NodeId). n.0) ids ≡ numbers → Contains numbers (slice_index_or ids k d).0
item-there ids numbers k d lt same =
    subst (λ (l : List ℕ). Contains l (slice_index_or ids k d).0) same
    (Contains-map (λ (n : NodeId). n.0) (slice_index_or ids k d) ids (Contains-get_or ids k d lt))

-- ---- the locations in data are places of the section
pub within-section : RenumberingKeepsParts → (s : Source) (l : WrittenLocations) (h : Head) (version : ℕ) → IsOver s l
    → IsSoundHead (sizes_of s.file.now) version h
    → All (λ (place : ℕ). place ≤ length l.section.now) (data_locations version h.payload)
within-section renumbering s l h version over sound =
    subst (λ entries. All (λ (place : ℕ). place ≤ length entries) (data_locations version h.payload))
    (sym over.section) (renumbering.within (sizes_of s.file.now) version h sound)

-- ---- a change keeps what it is over
pub over-kept : (s : Source) (ws : List (List Pair)) (places ids : List ℕ) (l m : WrittenLocations) → IsOver s l
    → AddsAll ws places ids l m → IsOver s m
over-kept s ws places ids l m over adds =
    record { section = adds.section ∙ over.section; table = adds.table ∙ over.table }

-- ---- one word more
pub adds-word : AddedPartsJoin → (ws : List ℕ) (k w : ℕ) (s t u : WrittenLocations) → slice_get ws k ≡ Some w
    → AddsWords (take k ws) s t → AddsWords (w ∷ []) t u → AddsWords (take (k + 1) ws) s u
adds-word add ws k w s t u is a b =
    subst (λ l. AddsWords l s u) (sym (take-at ws k w is)) (add.words_joined (take k ws) (w ∷ []) s t u a b)

pub use-word : (s : Source) (i k : ℕ) (u : UseOf) → slice_get (uses_at s.pool.now i) k ≡ Some u
    → slice_get (words_in s i) k ≡ Some u.place.0
use-word s i k u is = slice_get-mapped (λ (v : UseOf). v.place.0) (uses_at s.pool.now i) k u is

pub place-below : (s : Source) → IsLoadedSource s → (i k : ℕ) (u : UseOf) → i < length s.pool.now
    → slice_get (uses_at s.pool.now i) k ≡ Some u → u.place.0 < length s.words.now
place-below s source i k u lt is =
    All-contains (λ (v : UseOf). v.place.0 < length s.words.now) (uses_at s.pool.now i) u
    (source.loaded.places i lt) (Contains-at (uses_at s.pool.now i) k u is)

-- ---- a node
module _ (s : Source) (pool : pools.IsSound s.pool.now) (i : ℕ) (lt : i < length s.pool.now)
    (l m : WrittenLocations) (over : IsOver s l) (after : IsOver s m) where
  node-words : map (word_at l) (data_in s i) ++ map (word_of_id m) (words_in s i)
      ≡ words_of_tree s.file.now (tree_in s i)
  node-words =
      (λ j. map (word_of_place (over.section j)) (data_in s i)
      ++ map (λ (k : ℕ). unwrap_or (slice_get (after.table j) k) []) (words_in s i))
      ∙ ap (λ ws. words_of_data s.file.now (head_in s i) ++ ws)
      (map-map (λ (k : ℕ). unwrap_or (slice_get s.words.now k) []) (λ (v : UseOf). v.place.0) (uses_at s.pool.now i)
      ∙ sym (ap (map (λ (u : Use). u.word)) (uses-are s pool i lt)
      ∙ map-map (λ (u : Use). u.word) (use_of s) (uses_at s.pool.now i)))

  pub adds-node : AddedPartsJoin → (u : WrittenLocations) → Adds (data_in s i) l m → AddsWords (words_in s i) m u
      → AddsNode s i l u
  adds-node add u a b =
      subst (λ ws. AddsAll ws (data_in s i) (words_in s i) l u) node-words
      (subst (λ places. AddsAll (map (word_at l) (data_in s i) ++ map (word_of_id m) (words_in s i)) places
      (words_in s i) l u) (append-nil (data_in s i))
      (add.all_joined (map (word_at l) (data_in s i)) (map (word_of_id m) (words_in s i)) (data_in s i) [] []
      (words_in s i) l m u a b))

-- ---- nodes
flat_map-push : {X Y : Type 0} (f : X → List Y) (xs : List X) (x : X)
    → flat_map f xs ++ f x ≡ flat_map f (xs ++ x ∷ [])
flat_map-push f xs x =
    sym (flat_map-append f xs (x ∷ []) ∙ ap (λ l. flat_map f xs ++ l) (append-nil (f x)))

pub adds-push : AddedPartsJoin → (s : Source) (numbers : List ℕ) (i : ℕ) (l m u : WrittenLocations)
    → AddsNodes s numbers l m → AddsNode s i m u → AddsNodes s (numbers ++ i ∷ []) l u
adds-push add s numbers i l m u a b =
    let W : ℕ → List (List Pair) = λ k. words_of_tree s.file.now (tree_in s k) in
    let joined = add.all_joined (flat_map W numbers) (W i) (flat_map (data_in s) numbers) (data_in s i)
    (flat_map (words_in s) numbers) (words_in s i) l m u a b in
    subst (λ ws. AddsAll ws (flat_map (data_in s) (numbers ++ i ∷ [])) (flat_map (words_in s) (numbers ++ i ∷ [])) l u)
    (flat_map-push W numbers i)
    (subst (λ places. AddsAll (flat_map W numbers ++ W i) places (flat_map (words_in s) (numbers ++ i ∷ [])) l u)
    (flat_map-push (data_in s) numbers i)
    (subst (λ ids. AddsAll (flat_map W numbers ++ W i) (flat_map (data_in s) numbers ++ data_in s i) ids l u)
    (flat_map-push (words_in s) numbers i) joined))

pub numbers-more : (ids : List NodeId) (k : ℕ) (d : NodeId) → k < length ids
    → map (λ (n : NodeId). n.0) (take (k + 1) ids)
    ≡ map (λ (n : NodeId). n.0) (take k ids) ++ (slice_index_or ids k d).0 ∷ []
numbers-more ids k d lt =
    ap (map (λ (n : NodeId). n.0)) (rw add-one (take-suc ids k d lt))
    ∙ map-append (λ (n : NodeId). n.0) (take k ids) (slice_index_or ids k d ∷ [])

-- ---- the nodes of a root, and its word
pub located : AddedPartsJoin → (s : Source) → pools.IsSound s.pool.now → IsLoadedSource s → (root : UseOf)
    (numbers : List ℕ) → IsOrderOf s.pool.now root.id.0 numbers → (l m u : WrittenLocations) → IsOver s l
    → further_of l ≡ [] → AddsNodes s numbers l m → AddsWords (root.place.0 ∷ []) m u → AreLocated s numbers root u
located add s pool source root numbers order l m u over none a b = record {
  over = over-kept s _ _ _ m u (over-kept s _ _ _ l m over a) b;
  numbering = b.numbering;
  words =
      b.words
      ∙ (λ j. fold with_word (a.words j) (root-word j ∷ []))
      ∙ sym (fold-append with_word (further_of l) (flat_map W numbers) ((use_of s root).word ∷ []))
      ∙ (λ j. fold with_word (none j) (trees-words j ++ (use_of s root).word ∷ []));
  named = λ i k ci ck. b.kept k (a.added k (Contains-flat_map (data_in s) i k numbers ci ck));
  used = λ i k ci ck. b.words_kept k (a.words_added k (Contains-flat_map (words_in s) i k numbers ci ck));
  root_added = b.words_added root.place.0 (Contains-here root.place.0 []);
}
  where
    W : ℕ → List (List Pair)
    W k = words_of_tree s.file.now (tree_in s k)

    middle : IsOver s m
    middle = over-kept s _ _ _ l m over a

    root-word : word_of_id m root.place.0 ≡ (use_of s root).word
    root-word = ap (λ (t : List (List Pair)). unwrap_or (slice_get t root.place.0) []) middle.table

    trees-words : flat_map W numbers ≡ flat_map (words_of_tree s.file.now) (flat (use_of s root).tree)
    trees-words =
        sym (flat_map-map (words_of_tree s.file.now) (tree_in s) numbers)
        ∙ ap (flat_map (words_of_tree s.file.now)) (order.trees s.words.now source.loaded.table source.loaded.places)

pub on-ok : {A E P Q : Type 0} (r : Result A E) → (P → Q) → OnOk r P → OnOk r Q
on-ok (Ok x) f h = f h
on-ok (Err e) f h = h
