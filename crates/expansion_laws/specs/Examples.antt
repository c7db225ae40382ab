-- Worked examples of rewriting: small files, a step on each, and what comes of it.
use Rattle.std.specs.Prelude.{◌≡◌, ℕ, zero, suc, pos, negsuc, None, Some, List, [], ◌∷◌, map, slice_get, unwrap_or}
use Rattle.orientation.specs.declared.turn.Turn.{Turn}
use Rattle.orientation.specs.declared.turn.Turn.TheVariants.{Forward, Reversed, Internal}
use Rattle.orientation.specs.declared.kind.Kind.{Kind}
use Rattle.orientation.specs.declared.rule.Rule.{Rule}
use Rattle.orientation.specs.Rules.{usual}
use Rattle.orientation.specs.declared.kind.Kind.TheVariants.{Ve, Ed, Wi, Fa, Sh, So, Co}
use Rattle.location_words.specs.declared.pair.Pair.{Pair}
use Rattle.location_words.specs.Pairs.{pair}
use Rattle.expansion_laws.specs.Trees.{Tree, Use, a_single, tree_of}
use Rattle.expansion_laws.specs.Expansion.{NumberedUse, tree_of_number, expansion}
use Rattle.expansion_laws.specs.Contexts.{at_root, bare}
use Rattle.expansion_laws.specs.Requests.{Request, Act, remove, replace}
use Rattle.expansion_laws.specs.Steps.{Step}
use Rattle.expansion_laws.specs.Rewriting.{results_within}
use Rattle.expansion_laws.specs.Visits.{visits_within}
use Rattle.expansion_laws.specs.Graph.{IsFirstCycle}

-- a use of a record's number
abbrev pub named : Turn → List Pair → ℕ → NumberedUse
named t w k = record { turn = t; word = w; number = k }

abbrev pub plus : ℕ → NumberedUse
plus k = named Forward [] k

abbrev pub minus : ℕ → NumberedUse
minus k = named Reversed [] k

-- the word of the first power of a datum
abbrev pub by_datum : ℕ → List Pair
by_datum d = pair d (pos 1) ∷ []

-- the kind of each origin, given the kinds in the order of the numbers from 1 on
abbrev pub kinds_of : List Kind → ℕ → Kind
kinds_of kinds zero = Co
kinds_of kinds (suc k) = unwrap_or (slice_get kinds k) Co

abbrev pub step_under : Rule → List Kind → List Request → Step
step_under rule kinds requests = record { kind_of_origin = kinds_of kinds; requests = requests; rule = rule }

abbrev pub step_of : List Kind → List Request → Step
step_of = step_under usual

-- a request for all occurrences of a tree
abbrev pub always : Tree → Act → Request
always x act = record { source = x; place = None; turn = None; act = act }

-- ---- an edge is replaced by a wire: the wire's edges stand in its place
abbrev pub wires : List (List NumberedUse)
wires =
    [] ∷ [] ∷ [] ∷ (plus 9 ∷ minus 8 ∷ []) ∷ (plus 9 ∷ minus 7 ∷ []) ∷ (plus 7 ∷ minus 8 ∷ []) ∷ (plus 6 ∷ []) ∷
    (plus 5 ∷ plus 4 ∷ []) ∷ (plus 3 ∷ []) ∷ []

abbrev pub by_wire : Step
by_wire =
    step_of (Co ∷ Wi ∷ Wi ∷ Ed ∷ Ed ∷ Ed ∷ Ve ∷ Ve ∷ Ve ∷ [])
    (always (tree_of_number wires 6) (replace (bare (tree_of_number wires 2))) ∷ [])

abbrev pub after_wire : Use
after_wire =
    bare (tree_of 1 (bare (tree_of 3 (bare (tree_of_number wires 5) ∷ bare (tree_of_number wires 4) ∷ [])) ∷ []))

-- ---- a vertex is replaced by another: the edge that two faces share stays one tree
abbrev pub faces : List (List NumberedUse)
faces =
    [] ∷ [] ∷ [] ∷ (plus 9 ∷ minus 8 ∷ []) ∷ (plus 6 ∷ []) ∷ (minus 6 ∷ []) ∷ (plus 5 ∷ []) ∷ (plus 4 ∷ []) ∷
    (plus 3 ∷ plus 2 ∷ []) ∷ []

abbrev pub by_vertex : Step
by_vertex =
    step_of (Sh ∷ Fa ∷ Fa ∷ Wi ∷ Wi ∷ Ed ∷ Ve ∷ Ve ∷ Ve ∷ [])
    (always (tree_of_number faces 8) (replace (bare (tree_of_number faces 7))) ∷ [])

abbrev pub new_edge : Tree
new_edge = tree_of 6 (bare (tree_of_number faces 9) ∷ a_single Reversed [] (tree_of_number faces 7) ∷ [])

abbrev pub after_vertex : Use
after_vertex =
    bare (tree_of 1 (
    bare (tree_of 3 (bare (tree_of 5 (bare new_edge ∷ [])) ∷ [])) ∷
    bare (tree_of 2 (bare (tree_of 4 (a_single Reversed [] new_edge ∷ [])) ∷ [])) ∷ []))

-- ---- a face is replaced at one of two places; the new face's accumulated word is the one that the request gives
abbrev pub solids : List (List NumberedUse)
solids =
    [] ∷ [] ∷ [] ∷ (plus 6 ∷ plus 5 ∷ []) ∷ (plus 3 ∷ []) ∷
    (named Forward (by_datum 1) 2 ∷ named Forward (by_datum 2) 2 ∷ []) ∷ []

abbrev pub at_place : Step
at_place =
    step_of (Co ∷ So ∷ Sh ∷ Fa ∷ Fa ∷ Fa ∷ [])
    (record {
      source = tree_of_number solids 6;
      place = Some (by_datum 1);
      turn = None;
      act = replace (a_single Forward (by_datum 1) (tree_of_number solids 4));
    } ∷ [])

abbrev pub after_place : Use
after_place =
    bare (tree_of 1 (
    a_single Forward (by_datum 1)
    (tree_of 2 (bare (tree_of 3 (bare (tree_of_number solids 4) ∷ bare (tree_of_number solids 5) ∷ [])) ∷ [])) ∷
    a_single Forward (by_datum 2) (tree_of_number solids 2) ∷ []))

-- ---- a vertex is removed under one turn: the accumulated turn counts, and not that of the use
abbrev pub turned : List (List NumberedUse)
turned = [] ∷ (minus 2 ∷ []) ∷ []

abbrev pub under_turn : Turn → Step
under_turn t =
    step_of (Co ∷ Ve ∷ []) (record { source = tree_of_number turned 2; place = None; turn = Some t; act = remove } ∷ [])

abbrev pub turned_root : Use
turned_root = expansion turned (named Internal [] 1)

-- ---- two vertices are replaced by each other: a cycle
abbrev pub pairs : List (List NumberedUse)
pairs = [] ∷ [] ∷ (plus 3 ∷ plus 2 ∷ []) ∷ []

abbrev pub in_cycle : Step
in_cycle =
    step_of (Co ∷ Ve ∷ Ve ∷ [])
    (always (tree_of_number pairs 3) (replace (bare (tree_of_number pairs 2))) ∷
    always (tree_of_number pairs 2) (replace (bare (tree_of_number pairs 3))) ∷ [])

abbrev pub cycle_walk : List Tree
cycle_walk = tree_of_number pairs 3 ∷ tree_of_number pairs 2 ∷ tree_of_number pairs 3 ∷ []

-- ---- compounds of which each uses the one before it twice, over a vertex that is replaced
abbrev pub doubled : List (List NumberedUse)
doubled = [] ∷ [] ∷ (plus 5 ∷ plus 5 ∷ []) ∷ (plus 3 ∷ plus 3 ∷ []) ∷ (plus 2 ∷ plus 2 ∷ []) ∷ []

abbrev pub by_leaf : Step
by_leaf =
    step_of (Co ∷ Co ∷ Co ∷ Ve ∷ Ve ∷ [])
    (always (tree_of_number doubled 5) (replace (bare (tree_of_number doubled 4))) ∷ [])

abbrev pub twice : ℕ → Tree → Tree
twice k x = tree_of k (bare x ∷ bare x ∷ [])

-- ---- the same with two places: every word is a visit of its own, and one of the four vertices is replaced
abbrev pub placed : List (List NumberedUse)
placed =
    [] ∷ [] ∷ (named Forward (by_datum 1) 4 ∷ named Forward (by_datum 2) 4 ∷ []) ∷
    (named Forward (by_datum 1) 2 ∷ named Forward (by_datum 2) 2 ∷ []) ∷ []

abbrev pub at_one : Step
at_one =
    step_of (Co ∷ Co ∷ Ve ∷ Ve ∷ [])
    (record {
      source = tree_of_number placed 4;
      place = Some (pair 2 (pos 1) ∷ pair 1 (pos 1) ∷ []);
      turn = None;
      act = replace (bare (tree_of_number placed 3));
    } ∷ [])

abbrev pub after_one : Use
after_one =
    bare (tree_of 1 (
    a_single Forward (by_datum 1) (tree_of 2 (
    a_single Forward (by_datum 1) (tree_of_number placed 4) ∷
    a_single Forward (pair 1 (negsuc 0) ∷ []) (tree_of_number placed 3) ∷ [])) ∷
    a_single Forward (by_datum 2) (tree_of_number placed 2) ∷ []))

-- the accumulated words of the visits: of the root, then of each half with its two vertices, the new one after the one
-- replaced
abbrev pub visited_words : List (List Pair)
visited_words =
    [] ∷
    by_datum 1 ∷ (pair 1 (pos 2) ∷ []) ∷ (pair 2 (pos 1) ∷ pair 1 (pos 1) ∷ []) ∷ [] ∷
    by_datum 2 ∷ (pair 1 (pos 1) ∷ pair 2 (pos 1) ∷ []) ∷ (pair 2 (pos 2) ∷ []) ∷ []

-- what comes of the examples
pub record ExamplesComeOut : Type 0 where
  pub edge_by_wire : results_within by_wire 8 at_root (expansion wires (plus 1)) ≡ Some (after_wire ∷ [])
  pub shared_edge : results_within by_vertex 8 at_root (expansion faces (plus 1)) ≡ Some (after_vertex ∷ [])
  pub face_at_place : results_within at_place 8 at_root (expansion solids (plus 1)) ≡ Some (after_place ∷ [])
  pub internal_removed : results_within (under_turn Internal) 8 at_root turned_root ≡
      Some (a_single Internal [] (tree_of 1 []) ∷ [])
  pub reversed_stays : results_within (under_turn Reversed) 8 at_root turned_root ≡ Some (turned_root ∷ [])
  pub too_few_levels : results_within (under_turn Reversed) 1 at_root turned_root ≡ None
  pub first_cycle : IsFirstCycle in_cycle (tree_of_number pairs 1) cycle_walk
  pub no_results_in_cycle : results_within in_cycle 8 at_root (expansion pairs (plus 1)) ≡ None
  pub leaf_of_doubled : results_within by_leaf 8 at_root (expansion doubled (plus 1)) ≡
      Some (bare (twice 1 (twice 2 (twice 3 (tree_of_number doubled 4)))) ∷ [])
  pub one_of_four : results_within at_one 8 at_root (expansion placed (plus 1)) ≡ Some (after_one ∷ [])
  pub visits_of_four : map (λ v. v.1.word) (visits_within at_one 3 (tree_of_number placed 1) at_root) ≡ visited_words
