-- What a step's graph reaches from a tree stands in that tree or in what replaces bring.
use Rattle.std.proofs.Common.{◌≤◌, subst, arith, inl, inr}
use Rattle.std.specs.Prelude.{ℕ, zero, suc, Bool, true, false, List, [], ◌∷◌, ◌++◌, length, Contains, if◌then◌else◌}
use Rattle.std.specs.List.{list_any, flat_map}
use Rattle.std.proofs.lemmas.List.Elements.{Contains-append_left, Contains-append_right, Contains-append_cases}
use Rattle.lists.proofs.Tests.{Contains-filter_cases}
use Rattle.lists.proofs.Members.{Contains-cases, Contains-flat_map, Contains-flat_map_cases}
use Rattle.lists.proofs.Members.{Contains-map_cases, Contains-none, Contains-there}
use Rattle.lists.proofs.Cases.{by_test}
use Rattle.orientation.specs.Kinds.{kind_eq}
use Rattle.graph_walks.specs.Walks.{itself, along, IsWalkFrom}
use Rattle.graph_walks.proofs.TotalLemmas.{cycle-or-rank}
use Rattle.graph_walks.proofs.DeterminedLemmas.{determined}
use Rattle.expansion_laws.specs.Trees.{Tree, Use, uses}
use Rattle.expansion_laws.specs.Equality.{tree_eq}
use Rattle.expansion_laws.specs.Measures.{subtrees}
use Rattle.expansion_laws.specs.Requests.{Act, remove, replace, Request, is_for, is_unconditional}
use Rattle.expansion_laws.specs.Requests.{from_last_unconditional, requests_for, live_requests}
use Rattle.expansion_laws.specs.Steps.{Step, kind, is_entered, entered}
use Rattle.expansion_laws.specs.Graph.{trees_of, children, targets, edges, Reaches, HasCycle, IsRank}
use Rattle.expansion_laws.specs.Ending.{CycleOrRank, CyclesAreFound}
use Rattle.expansion_laws.proofs.TreeEquality.{tree_eq-same, tree_eq-itself}
use Rattle.expansion_laws.proofs.Subtrees.{subtrees-itself, subtrees-use, subtrees-onward}

live-member : (qs : List Request) (r : Request) → Contains (from_last_unconditional qs) r → Contains qs r
live-member [] r m = m
live-member (q ∷ qs) r m = by_test (list_any is_unconditional qs)
    (λ f. Contains-there q r qs (live-member qs r (rw f at m)))
    (λ f. rw f at m)

-- the trees that an act brings
abbrev act_trees : Act → List Tree
act_trees remove = []
act_trees (replace by) = subtrees by.tree

module _ (s : Step) (root : Tree) where
  abbrev all_trees : List Tree
  all_trees = subtrees root ++ flat_map (λ r. act_trees r.act) s.requests

  act-closed : (act : Act) (x y : Tree) → Contains (act_trees act) x → Contains (subtrees x) y →
      Contains (act_trees act) y
  act-closed remove x y m n = absurd (Contains-none x m)
  act-closed (replace by) x y m n = subtrees-onward by.tree x y m n

  all-closed : (x y : Tree) → Contains all_trees x → Contains (subtrees x) y → Contains all_trees y
  all-closed x y m n = elim (Contains-append_cases (subtrees root) (flat_map (λ r. act_trees r.act) s.requests) x m) [
    | inl k ↦ Contains-append_left (subtrees root) (flat_map (λ r. act_trees r.act) s.requests) y
        (subtrees-onward root x y k n)
    | inr k ↦
        (let from = Contains-flat_map_cases (λ (r : Request). act_trees r.act) x s.requests k in
        Contains-append_right (subtrees root) (flat_map (λ r. act_trees r.act) s.requests) y
        (Contains-flat_map (λ (r : Request). act_trees r.act) from.0 y s.requests from.1
        (act-closed from.0.act x y from.2 n)))
  ]

  child-below : (x y : Tree) → Contains (children x) y → Contains (subtrees x) y
  child-below x y m = let from = Contains-map_cases (λ (u : Use). u.tree) y (uses x) m in
      subtrees-use x from.0 y from.1 (subst (λ z. Contains (subtrees from.0.tree) z) from.2
      (subtrees-itself from.0.tree))

  target-given : (x y : Tree) (act : Act) → Contains (targets s x act) y → Contains (act_trees act) y
  target-given x y remove m = m
  target-given x y (replace by) m = go (kind_eq (kind s x) (kind s by.tree)) m
    where
      go : (b : Bool) → Contains (if b then by.tree ∷ [] else children by.tree) y → Contains (subtrees by.tree) y
      go true m =
          elim (Contains-cases by.tree y [] m) [
            | inl e ↦
                subst (λ z. Contains (subtrees by.tree) z) e (subtrees-itself by.tree)
            | inr n ↦ absurd (Contains-none y n)
          ]
      go false m = child-below by.tree y m

  entered-child : (b : Bool) (x y : Tree) → Contains (trees_of (if b then uses x else [])) y → Contains (children x) y
  entered-child true x y m = m
  entered-child false x y m = absurd (Contains-none y m)

  left-child : (b : Bool) (x y : Tree) → Contains (if b then [] else trees_of (entered s x)) y → Contains (children x) y
  left-child true x y m = absurd (Contains-none y m)
  left-child false x y m = entered-child (is_entered s x) x y m

  edge-stays : (x y : Tree) → Contains all_trees x → Contains (edges s x) y → Contains all_trees y
  edge-stays x y h m =
      elim (Contains-append_cases (flat_map (λ r. targets s x r.act) (live_requests s.requests x))
      (if list_any is_unconditional (requests_for s.requests x) then [] else trees_of (entered s x)) y m) [
        | inl k ↦
            (let from = Contains-flat_map_cases (λ (r : Request). targets s x r.act) y (live_requests s.requests x) k in
            let given =
            (Contains-filter_cases (is_for x) s.requests from.0
            (live-member (requests_for s.requests x) from.0 from.1)).0 in
            Contains-append_right (subtrees root) (flat_map (λ r. act_trees r.act) s.requests) y
            (Contains-flat_map (λ (r : Request). act_trees r.act) from.0 y s.requests given
            (target-given x y from.0.act from.2)))
        | inr k ↦
            all-closed x y h
            (child-below x y (left-child (list_any is_unconditional (requests_for s.requests x)) x y k))
      ]

  reached-stays : {x y : Tree} → Reaches s x y → Contains all_trees x → Contains all_trees y
  reached-stays itself h = h
  reached-stays (along {x = x} z m r) h = reached-stays r (edge-stays x z h m)

  all-reached : (y : Tree) → Reaches s root y → Contains all_trees y
  all-reached y r =
      reached-stays r (Contains-append_left (subtrees root) (flat_map (λ r. act_trees r.act) s.requests) root
      (subtrees-itself root))

pub cycle-or-rank-of : (s : Step) → CycleOrRank s
cycle-or-rank-of s root =
    cycle-or-rank (edges s) tree_eq tree_eq-same tree_eq-itself (all_trees s root) root (all-reached s root)

-- a cycle gives walks of any length
module _ (s : Step) where
  around : {x y : Tree} → Reaches s x y → (w : List Tree) → IsWalkFrom (edges s) y w →
      (walk : List Tree) × IsWalkFrom (edges s) x walk × (length w ≤ length walk)
  around itself w h = (w, h, omega arith)
  around (along y m r) w h = let rest = around r w h in (y ∷ rest.0, (m, rest.1), (let a = rest.2 in omega (arith, a)))

  long : (n : ℕ) (x y : Tree) → Contains (edges s x) y → Reaches s y x →
      (walk : List Tree) × IsWalkFrom (edges s) x walk × (n ≤ length walk)
  long zero x y m r = ([], tt, omega arith)
  long (suc n) x y m r =
      let less = long n x y m r in
      let on = around r less.0 less.1 in
      (y ∷ on.0, (m, on.1), (let a = less.2 in let b = on.2 in omega (arith, a, b)))

  no-rank : (root : Tree) (n : ℕ) → IsRank s root n → HasCycle s root → ⊥
  no-rank root n rank c =
      let walk = long (suc n) c.0 c.1 c.3 c.4 in
      let from = around c.2 walk.0 walk.1 in
      let a = rank.1 from.0 from.1 in let b = walk.2 in let d = from.2 in omega (arith, a, b, d)

pub cycles-found : (s : Step) → CyclesAreFound s
cycles-found s = record {
  first = λ root. (
    (λ w. (determined (edges s)).has_cycle root w.0 ((determined (edges s)).first_is_cycle root w.0 w.1)),
    (λ c. elim (cycle-or-rank-of s root) [ inl w ↦ w | inr n ↦ absurd (n.0 c) ]),
  );
  rank = λ root. (
    (λ r c. no-rank s root r.0 r.1 c),
    (λ n. elim (cycle-or-rank-of s root) [
      | inl w ↦
          absurd (n ((determined (edges s)).has_cycle root w.0 ((determined (edges s)).first_is_cycle root w.0 w.1)))
      | inr r ↦ r.1
    ]),
  );
}
