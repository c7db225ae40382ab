-- The worked examples, by computation.
use Rattle.std.proofs.Common.{◌≡◌, ◌≢◌, refl, ◌∙◌, ap, arith, inl, inr}
use Rattle.std.specs.Prelude.{ℕ, [], ◌∷◌, Contains, Some, None, map}
use Rattle.lists.proofs.Members.{Contains-cases, Contains-none}
use Rattle.orientation.specs.declared.turn.Turn.TheVariants.{Reversed, Internal}
use Rattle.graph_walks.specs.Walks.{closes, enters, finds}
use Rattle.expansion_laws.specs.Trees.{Tree, a_single, origin, tree_of}
use Rattle.expansion_laws.specs.Contexts.{at_root, bare}
use Rattle.expansion_laws.specs.Expansion.{expansion, tree_of_number}
use Rattle.expansion_laws.specs.Rewriting.{results_within}
use Rattle.expansion_laws.specs.Visits.{visits_within}
use Rattle.expansion_laws.specs.Graph.{IsFirstCycle}
use Rattle.expansion_laws.specs.Examples.{plus, wires, by_wire, after_wire, faces, by_vertex, after_vertex}
use Rattle.expansion_laws.specs.Examples.{solids, at_place, after_place, under_turn, turned_root, pairs}
use Rattle.expansion_laws.specs.Examples.{in_cycle, cycle_walk, doubled, by_leaf, twice, placed, at_one}
use Rattle.expansion_laws.specs.Examples.{after_one, visited_words, ExamplesComeOut}

edge-by-wire : results_within by_wire 8 at_root (expansion wires (plus 1)) ≡ Some (after_wire ∷ [])
unfolding results_within
edge-by-wire = refl

shared-edge : results_within by_vertex 8 at_root (expansion faces (plus 1)) ≡ Some (after_vertex ∷ [])
unfolding results_within
shared-edge = refl

face-at-place : results_within at_place 8 at_root (expansion solids (plus 1)) ≡ Some (after_place ∷ [])
unfolding results_within
face-at-place = refl

internal-removed : results_within (under_turn Internal) 8 at_root turned_root ≡
    Some (a_single Internal [] (tree_of 1 []) ∷ [])
unfolding results_within
internal-removed = refl

reversed-stays : results_within (under_turn Reversed) 8 at_root turned_root ≡ Some (turned_root ∷ [])
unfolding results_within
reversed-stays = refl

too-few-levels : results_within (under_turn Reversed) 1 at_root turned_root ≡ None
unfolding results_within
too-few-levels = refl

no-results-in-cycle : results_within in_cycle 8 at_root (expansion pairs (plus 1)) ≡ None
unfolding results_within
no-results-in-cycle = refl

leaf-of-doubled : results_within by_leaf 8 at_root (expansion doubled (plus 1)) ≡
    Some (bare (twice 1 (twice 2 (twice 3 (tree_of_number doubled 4)))) ∷ [])
unfolding results_within
leaf-of-doubled = refl

one-of-four : results_within at_one 8 at_root (expansion placed (plus 1)) ≡ Some (after_one ∷ [])
unfolding results_within
one-of-four = refl

visits-of-four : map (λ v. v.1.word) (visits_within at_one 3 (tree_of_number placed 1) at_root) ≡ visited_words
unfolding visits_within
visits-of-four = refl

-- no tree of a list with other origins is this one
abbrev vertex : ℕ → Tree
vertex k = tree_of_number pairs k

apart-one : (y : Tree) → Contains (vertex 1 ∷ []) y → y ≢ vertex 3
apart-one y m f = elim (Contains-cases (vertex 1) y [] m) [
  | inl e ↦ (let g : 1 ≡ 3 = ap origin (e ∙ f) in omega (arith, g))
  | inr k ↦ Contains-none y k
]

apart-two : (y : Tree) → Contains (vertex 3 ∷ vertex 1 ∷ []) y → y ≢ vertex 2
apart-two y m f = elim (Contains-cases (vertex 3) y (vertex 1 ∷ []) m) [
  | inl e ↦ (let g : 3 ≡ 2 = ap origin (e ∙ f) in omega (arith, g))
  | inr k ↦ elim (Contains-cases (vertex 1) y [] k) [
    | inl e ↦ (let g : 1 ≡ 2 = ap origin (e ∙ f) in omega (arith, g))
    | inr l ↦ Contains-none y l
  ]
]

first-cycle : IsFirstCycle in_cycle (tree_of_number pairs 1) cycle_walk
first-cycle =
    enters (λ y m. absurd (Contains-none y m))
    (finds (enters apart-one
    (finds (enters apart-two
    (finds (closes (vertex 2 ∷ []) (vertex 1 ∷ []) refl))))))

pub examples_come_out : ExamplesComeOut
examples_come_out = record {
  edge_by_wire = edge-by-wire;
  shared_edge = shared-edge;
  face_at_place = face-at-place;
  internal_removed = internal-removed;
  reversed_stays = reversed-stays;
  too_few_levels = too-few-levels;
  first_cycle = first-cycle;
  no_results_in_cycle = no-results-in-cycle;
  leaf_of_doubled = leaf-of-doubled;
  one_of_four = one-of-four;
  visits_of_four = visits-of-four;
}
