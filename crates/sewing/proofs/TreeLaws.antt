-- What is asked by numbers stands for what is asked of trees.
use Rattle.std.proofs.Common.{◌≡◌, ◌<◌, ◌↔◌, ◌∙◌, refl, sym, ap, subst, arith, true≢false, ℕ, nat_eq, length, map}
use Rattle.std.specs.Prelude.{Bool, true, false, ◌&&◌, if◌then◌else◌, List, [], ◌∷◌, ◌++◌, All, Contains, IsPermutation}
use Rattle.std.specs.Prelude.{None}
use Rattle.std.proofs.lemmas.Bool.{eqb-true, eq-eqb}
use Rattle.std.proofs.lemmas.List.Elements.{All-contains}
use Rattle.std.proofs.lemmas.List.{map-append}
use Rattle.std.proofs.lemmas.List.Sorted.{IsPermutation-map}
use Rattle.std.proofs.lemmas.Simd.{map-map}
use Rattle.lists.proofs.Cases.{by_test}
use Rattle.lists.proofs.Entries.{All-rest}
use Rattle.lists.proofs.Members.{Contains-map_cases}
use Rattle.orientation.specs.declared.turn.Turn.{Turn}
use Rattle.orientation.specs.declared.turn.Turn.TheVariants.{Forward}
use Rattle.orientation.specs.Turns.{composed, turn_eq}
use Rattle.location_words.specs.declared.pair.Pair.{Pair}
use Rattle.expansion_laws.specs.Trees.{Tree, Use, a_single, list_of, uses_of}
use Rattle.expansion_laws.specs.Equality.{tree_eq}
use Rattle.expansion_laws.specs.Ends.{ends_under, HaveEqualEnds}
use Rattle.expansion_laws.specs.Requests.{replace}
use Rattle.shape_pool.specs.declared.node.NodeId.{NodeId}
use Rattle.shape_pool.specs.declared.node.UseOf.{UseOf}
use Rattle.shape_pool.specs.Rows.{Row, uses_at, use_by, tree_at}
use Rattle.shape_pool.specs.Laws.{IsSound}
use Rattle.requests.specs.Readings.{request_by, requests_by}
use Rattle.sewing.specs.declared.member.Member.{Member}
use Rattle.sewing.specs.Asked.{asked_of, ends_at, exchange, is_first, merging, sewing, turned, HaveSameEnds}
use Rattle.sewing.specs.AsTrees.{asked_of_tree, asked_of_trees, exchange_of, turned_at}
use Rattle.sewing.specs.AsTrees.{IsWordReading, StandsForTrees}
use Rattle.sewing.proofs.Unmapped.{unmapped}

list-back : (us : List Use) → list_of (uses_of us) ≡ us
list-back [] = refl
list-back (u ∷ us) = ap (λ l. u ∷ l) (list-back us)

module _ (rows : List Row) (sound : IsSound rows) (tell : (x y : Tree) → (tree_eq x y ≡ true) ↔ (x ≡ y))
    (word : ℕ → List Pair) (n : ℕ) (reading : IsWordReading rows word n) where
  abbrev used : UseOf → Use
  used = use_by word (tree_at word rows)

  same-ids : (i j : ℕ) → i < length rows → j < length rows → tree_at word rows i ≡ tree_at word rows j → i ≡ j
  same-ids i j li lj e = (sound.ids_tell_trees n word reading.placed reading.told i j li lj).1 e

  -- ---- ends
  ends-are : (sign : Turn) (i : ℕ) → i < length rows →
      ends_under sign (tree_at word rows i) ≡ map used (ends_at rows sign i)
  ends-are sign i h =
      let turn_it : Use → Use = λ u. a_single (composed sign u.turn) u.word u.tree in
      ap (ends_under sign) (sound.trees_of_uses word i h)
      ∙ ap (map turn_it) (list-back (map used (uses_at rows i)))
      ∙ map-map turn_it used (uses_at rows i)
      ∙ sym (map-map used (turned sign) (uses_at rows i))

  held : (sign : Turn) (i : ℕ) → i < length rows → (u : UseOf) → Contains (ends_at rows sign i) u →
      (u.id.0 < length rows) × (u.place.0 < n)
  held sign i h u m =
      let from = Contains-map_cases (turned sign) u (uses_at rows i) m in
      let below =
      All-contains (λ (v : UseOf). v.id.0 < i) (uses_at rows i) from.0 (sound.uses_are_earlier i h) from.1 in
      let placed = All-contains (λ (v : UseOf). v.place.0 < n) (uses_at rows i) from.0 (reading.placed i h) from.1 in
      let id = ap (λ (v : UseOf). v.id.0) from.2 in
      let place = ap (λ (v : UseOf). v.place.0) from.2 in
      (omega (arith, h, below, id), omega (arith, placed, place))

  tells : (a b : UseOf) → (a.id.0 < length rows) × (a.place.0 < n) → (b.id.0 < length rows) × (b.place.0 < n) →
      used a ≡ used b → a ≡ b
  tells a b ha hb e =
      let t : a.turn ≡ b.turn = ap (λ (u : Use). u.turn) e in
      let w : a.place.0 ≡ b.place.0 = reading.told a.place.0 b.place.0 ha.1 hb.1 (ap (λ (u : Use). u.word) e) in
      let k : a.id.0 ≡ b.id.0 = same-ids a.id.0 b.id.0 ha.0 hb.0 (ap (λ (u : Use). u.tree) e) in
      (λ i. record { turn = t i; place = record { 0 = w i }; id = record { 0 = k i } })

  pub ends-stand : (i j : ℕ) (sign : Turn) → i < length rows → j < length rows →
      HaveSameEnds rows i sign j ↔ HaveEqualEnds (tree_at word rows i) sign (tree_at word rows j)
  ends-stand i j sign li lj =
      let a = ends_at rows Forward i in
      let b = ends_at rows sign j in
      let e = ends-are Forward i li in
      let f = ends-are sign j lj in (
        (λ p. subst (λ l. IsPermutation l (ends_under sign (tree_at word rows j))) (sym e)
            (subst (λ l. IsPermutation (map used a) l) (sym f) (IsPermutation-map used a b p))),
        (λ q. unmapped used a b (λ u v m o. tells u v (held Forward i li u m) (held sign j lj v o))
            (subst (λ l. IsPermutation l (map used b)) e
            (subst (λ l. IsPermutation (ends_under Forward (tree_at word rows i)) l) f q))),
      )

  -- ---- requests
  same-test : (i j : ℕ) → i < length rows → j < length rows →
      nat_eq i j ≡ tree_eq (tree_at word rows i) (tree_at word rows j)
  same-test i j li lj =
      by_test (nat_eq i j)
      (λ t. t ∙ sym ((tell (tree_at word rows i) (tree_at word rows j)).1 (ap (tree_at word rows) (eqb-true i j t))))
      (λ f. by_test (tree_eq (tree_at word rows i) (tree_at word rows j))
      (λ t. absurd (
      let e = same-ids i j li lj ((tell (tree_at word rows i) (tree_at word rows j)).0 t) in
      let g = eq-eqb i j e in true≢false (sym g ∙ f)))
      (λ g. f ∙ sym g))

  exchanged : (first : NodeId) (turn : Turn) (source : NodeId) →
      request_by word rows (exchange first turn source) ≡
      exchange_of (tree_at word rows first.0) (turned_at word rows turn source.0)
  exchanged first turn source = (λ i. record {
    source = tree_at word rows source.0;
    place = None;
    turn = None;
    act = replace (a_single turn (reading.identity i) (tree_at word rows first.0));
  })

  chosen : (first : NodeId) (turn : Turn) (source : NodeId) (b : Bool) →
      requests_by word rows (if b then [] else exchange first turn source ∷ []) ≡
      (if b then [] else exchange_of (tree_at word rows first.0) (turned_at word rows turn source.0) ∷ [])
  chosen first turn source true = refl
  chosen first turn source false = ap (λ r. r ∷ []) (exchanged first turn source)

  asked-stands : (first : NodeId) (turn : Turn) (source : NodeId) → first.0 < length rows → source.0 < length rows →
      requests_by word rows (asked_of first turn source) ≡
      asked_of_tree (tree_at word rows first.0) (turned_at word rows turn source.0)
  asked-stands first turn source lf ls =
      chosen first turn source (is_first first turn source)
      ∙ ap
      (λ b. if turn_eq turn Forward && b then []
      else exchange_of (tree_at word rows first.0) (turned_at word rows turn source.0) ∷ [])
      (same-test source.0 first.0 ls lf)

  pub merges-stand : (first : NodeId) (members : List NodeId) → first.0 < length rows →
      All (λ (m : NodeId). m.0 < length rows) members →
      requests_by word rows (merging first members) ≡
      asked_of_trees (tree_at word rows first.0) (map (λ (m : NodeId). turned_at word rows Forward m.0) members)
  merges-stand first [] lf all = refl
  merges-stand first (m ∷ ms) lf all =
      let head = asked-stands first Forward m lf (all 0 m (omega arith)) in
      let tail = merges-stand first ms lf (All-rest (λ (m : NodeId). m.0 < length rows) m ms all) in
      map-append (request_by word rows) (asked_of first Forward m) (merging first ms) ∙ (λ i. head i ++ tail i)

  pub sews-stand : (first : NodeId) (members : List Member) → first.0 < length rows →
      All (λ (m : Member). m.id.0 < length rows) members →
      requests_by word rows (sewing first members) ≡
      asked_of_trees (tree_at word rows first.0) (map (λ (m : Member). turned_at word rows m.turn m.id.0) members)
  sews-stand first [] lf all = refl
  sews-stand first (m ∷ ms) lf all =
      let head = asked-stands first m.turn m.id lf (all 0 m (omega arith)) in
      let tail = sews-stand first ms lf (All-rest (λ (m : Member). m.id.0 < length rows) m ms all) in
      map-append (request_by word rows) (asked_of first m.turn m.id) (sewing first ms) ∙ (λ i. head i ++ tail i)

pub stands-for-trees : (rows : List Row) → IsSound rows → ((x y : Tree) → (tree_eq x y ≡ true) ↔ (x ≡ y)) →
    StandsForTrees rows
stands-for-trees rows sound tell = record {
  merges = λ word n first members reading lf all. merges-stand rows sound tell word n reading first members lf all;
  sews = λ word n first members reading lf all. sews-stand rows sound tell word n reading first members lf all;
  ends = λ word n i j sign reading li lj. ends-stand rows sound tell word n reading i j sign li lj;
}
