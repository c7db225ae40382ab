-- The nodes of the results of a key stand for the trees of its results.
use Rattle.std.proofs.Common.{◌≡◌, ◌≢◌, ◌↔◌, ℕ, Bool, true, false, List, map, ◌∷◌, [], Contains, length}
use Rattle.std.proofs.Common.{arith, sym, ◌∙◌, ap, subst, slice_get, Some, inl, inr}
use Rattle.std.proofs.lemmas.List.Elements.{All-contains}
use Rattle.std.proofs.lemmas.Option.{slice_get_within}
use Rattle.lists.proofs.Cases.{by_test}
use Rattle.lists.proofs.Members.{Contains-cases, Contains-first, Contains-map, Contains-map_cases, Contains-none}
use Rattle.lists.proofs.Places.{at_place}
use Rattle.location_words.specs.declared.pair.Pair.{Pair}
use Rattle.expansion_laws.specs.Trees.{Tree, Use}
use Rattle.shape_pool.specs.declared.node.NodeId.{NodeId}
use Rattle.shape_pool.specs.Rows.{Row, tree_at}
use Rattle.key_results.specs.declared.derive.Visit.{Visit}
use Rattle.key_results.specs.declared.parts.Part.{Part}
use Rattle.key_results.specs.declared.parts.Outgrowth.{Outgrowth}
use Rattle.key_results.specs.Derivations.{results_at, results_of, AreLinked}
use Rattle.key_results.specs.Parts.{use_of_part, own_at, is_own_at, results_by, AreOutgrowths, AreOfOwn}
use Rattle.key_results.specs.Grown.{StandForOwn}
use Rattle.key_results.specs.Pairs.{IsNodeOf}
use Rattle.key_results.specs.Results.{trees_of_results}
use Rattle.key_results.proofs.OwnerLaws.{own-place, owners-at}
use Rattle.key_results.proofs.PartLaws.{outgrowth-gives}
use Rattle.key_results.proofs.PartTurns.{by-own, by-parts}

module _ (old new : List Row) (word : ℕ → List Pair) (prune : Bool) (visits : List Visit) (outgrowths : List Outgrowth)
    (nodes : List NodeId)
    (linked : AreLinked visits) (are : AreOutgrowths word (results_of word (tree_at word old) prune visits) prune visits
    outgrowths)
    (owners : AreOfOwn outgrowths) (long : length nodes ≡ length visits)
    (stand : StandForOwn old new visits outgrowths nodes)
    (k : ℕ) (o : Outgrowth) (has : slice_get outgrowths k ≡ Some o) (y : Tree) where
  abbrev R : List (List Use)
  R = results_of word (tree_at word old) prune visits

  results : results_at R k ≡ results_by word (own_at R) k o
  results =
      let lt = slice_get_within outgrowths k o has in
      let same = are.long in
      let v = at_place visits k (omega (arith, lt, same)) in
      outgrowth-gives word (tree_at word old) prune visits linked k v.0 o v.1 (are.each k v.0 o v.1 has)

  own-side : o.own ≡ true → Contains (trees_of_results (results_at R k)) y ↔
      ((n : NodeId) × IsNodeOf nodes k o n × (tree_at word new n.0 ≡ y))
  own-side t =
      let alone : trees_of_results (results_at R k) ≡ own_at R k ∷ [] =
      ap trees_of_results (results ∙ by-own word (own_at R) k o t) in (
        λ m.
            let e : own_at R k ≡ y = elim (Contains-cases (own_at R k) y [] (subst (λ l. Contains l y) alone m)) [
              | inl e ↦ e
              | inr c ↦ absurd (Contains-none y c)
            ] in
            let lt = slice_get_within outgrowths k o has in
            let same = are.long in
            let n = at_place nodes k (omega (arith, lt, same, long)) in
            (n.0, inl (t, n.1), stand word k o n.0 prune are has n.1 t ∙ e),
        λ d. elim d.1 [
          | inl b ↦ subst (λ l. Contains l y) (sym alone)
              (Contains-first (own_at R k) y [] (sym (stand word k o d.0 prune are has b.1 t) ∙ d.2))
          | inr b ↦ absurd (b.0 t)
        ],
      )

  part-tree : (p : Part) (n : NodeId) → Contains o.parts.items p → slice_get nodes p.of ≡ Some n →
      tree_at word new n.0 ≡ own_at R p.of
  part-tree p n c at =
      let q =
      own-place outgrowths p.of (All-contains (λ (p : Part). is_own_at outgrowths p.of ≡ true) o.parts.items p
      (owners-at outgrowths k o has owners) c) in
      stand word p.of q.0 n prune are q.1 at q.2

  parts-side : o.own ≡ false → Contains (trees_of_results (results_at R k)) y ↔
      ((n : NodeId) × IsNodeOf nodes k o n × (tree_at word new n.0 ≡ y))
  parts-side f =
      let all : trees_of_results (results_at R k) ≡ trees_of_results (map (use_of_part word (own_at R)) o.parts.items) =
      ap trees_of_results (results ∙ by-parts word (own_at R) k o f) in
      let not-own : o.own ≢ true = (λ t. let wrong : true ≡ false = sym t ∙ f in absurd cc) in (
        λ m.
            let u = Contains-map_cases (λ (u : Use). u.tree) y (map (use_of_part word (own_at R)) o.parts.items)
            (subst (λ l. Contains l y) all m) in
            let p = Contains-map_cases (use_of_part word (own_at R)) u.0 o.parts.items u.1 in
            let tree : own_at R p.0.of ≡ y = ap (λ (u : Use). u.tree) p.2 ∙ u.2 in
            let q = own-place outgrowths p.0.of
            (All-contains (λ (p : Part). is_own_at outgrowths p.of ≡ true) o.parts.items p.0
            (owners-at outgrowths k o has owners) p.1) in
            let lt = slice_get_within outgrowths p.0.of q.0 q.1 in
            let same = are.long in
            let n = at_place nodes p.0.of (omega (arith, lt, same, long)) in
            (n.0, inr (not-own, (p.0, p.1, n.1)), part-tree p.0 n.0 p.1 n.1 ∙ tree),
        λ d. elim d.1 [
          | inl b ↦ absurd (not-own b.0)
          | inr b ↦ (
              let tree : own_at R b.1.0.of ≡ y = sym (part-tree b.1.0 d.0 b.1.1 b.1.2) ∙ d.2 in
              subst (λ l. Contains l y) (sym all)
              (subst (Contains (trees_of_results (map (use_of_part word (own_at R)) o.parts.items))) tree
              (Contains-map (λ (u : Use). u.tree) (use_of_part word (own_at R) b.1.0)
              (map (use_of_part word (own_at R)) o.parts.items)
              (Contains-map (use_of_part word (own_at R)) b.1.0 o.parts.items b.1.1))))
        ],
      )

  pub nodes-stand : Contains (trees_of_results (results_at R k)) y ↔
      ((n : NodeId) × IsNodeOf nodes k o n × (tree_at word new n.0 ≡ y))
  nodes-stand = by_test o.own own-side parts-side
