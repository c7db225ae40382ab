-- Worked examples of the rule of a step: what stops, and what is pruned.
use Rattle.std.specs.Prelude.{◌≡◌, ℕ, true, false, None, Some, List, [], ◌∷◌, map}
use Rattle.orientation.specs.declared.kind.Kind.{Kind}
use Rattle.orientation.specs.declared.kind.Kind.TheVariants.{Ve, Ed, Wi, Fa, Sh, So, Co}
use Rattle.orientation.specs.declared.turn.Turn.TheVariants.{Reversed}
use Rattle.orientation.specs.declared.rule.Rule.{Rule}
use Rattle.expansion_laws.specs.Trees.{Tree, Use, a_single, tree_of}
use Rattle.expansion_laws.specs.Expansion.{tree_of_number, expansion}
use Rattle.expansion_laws.specs.Contexts.{at_root, bare}
use Rattle.expansion_laws.specs.Requests.{Request, remove, replace}
use Rattle.expansion_laws.specs.Steps.{Step, root_of}
use Rattle.expansion_laws.specs.Rewriting.{results_within}
use Rattle.expansion_laws.specs.Visits.{visits_within}
use Rattle.expansion_laws.specs.Graph.{edges}
use Rattle.expansion_laws.specs.Examples.{plus, step_under, always, faces}

abbrev pub down_to : Kind → Rule
down_to stop = record { stop = stop; prune = false }

abbrev pub pruning : Rule
pruning = record { stop = Ve; prune = true }

abbrev pub leaf : ℕ → Tree
leaf k = tree_of k []

-- ---- a shell of two faces over one edge: its requests are carried out down to faces
abbrev pub face : ℕ → Tree
face k = tree_of_number faces k

abbrev pub on_faces : Rule → List Request → Step
on_faces rule requests = step_under rule (Sh ∷ Fa ∷ Fa ∷ Wi ∷ Wi ∷ Ed ∷ Ve ∷ Ve ∷ Ve ∷ []) requests

abbrev pub other_vertex : Request
other_vertex = always (face 8) (replace (bare (face 7)))

-- the vertex stays, since no face is gone through
abbrev pub vertex_out_of_reach : Step
vertex_out_of_reach = on_faces (down_to Fa) (other_vertex ∷ [])

-- a face goes on to what replaces it, though it isn't gone through
abbrev pub face_twice : Step
face_twice = on_faces (down_to Fa) (other_vertex ∷ always (face 2) (replace (bare (face 3))) ∷ [])

abbrev pub turned_face : Step
turned_face =
    on_faces (down_to Fa) (record {
      source = face 2;
      place = None;
      turn = Some Reversed;
      act = replace (bare (face 3));
    } ∷ [])

-- ---- an edge in a compound: its kind is lower than that of faces, and that of the compound isn't higher than that of
-- compounds
abbrev pub loose : Use
loose = bare (tree_of 1 (bare (tree_of 2 (bare (leaf 3) ∷ [])) ∷ []))

abbrev pub in_loose : Rule → Step
in_loose rule = step_under rule (Co ∷ Ed ∷ Ve ∷ []) (always (leaf 3) remove ∷ [])

-- ---- a compound that uses a vertex twice
abbrev pub twofold : Use
twofold = bare (tree_of 1 (bare (leaf 2) ∷ a_single Reversed [] (leaf 2) ∷ []))

abbrev pub without_vertex : Rule → Step
without_vertex rule = step_under rule (Co ∷ Ve ∷ []) (always (leaf 2) remove ∷ [])

-- ---- a solid over a shell over a face, beside a vertex
abbrev pub solid : Use
solid = bare (tree_of 1 (bare (tree_of 2 (bare (tree_of 3 (bare (leaf 4) ∷ [])) ∷ [])) ∷ bare (leaf 5) ∷ []))

abbrev pub without_face : Step
without_face = step_under pruning (Co ∷ So ∷ Sh ∷ Fa ∷ Ve ∷ []) (always (leaf 4) remove ∷ [])

-- ---- a shell that has no face, beside a vertex
abbrev pub empty_shell : Use
empty_shell = bare (tree_of 1 (bare (leaf 2) ∷ bare (leaf 3) ∷ []))

abbrev pub beside_shell : Step
beside_shell = step_under pruning (Co ∷ Sh ∷ Ve ∷ []) (always (leaf 3) remove ∷ [])

pub record RuleExamplesComeOut : Type 0 where
  pub faces_stay : results_within vertex_out_of_reach 8 at_root (expansion faces (plus 1)) ≡
      Some (expansion faces (plus 1) ∷ [])
  pub faces_are_visited_last : map (λ v. v.0) (visits_within vertex_out_of_reach 8 (face 1) at_root) ≡
      face 1 ∷ face 3 ∷ face 2 ∷ []
  pub face_replaced : results_within face_twice 8 at_root (expansion faces (plus 1)) ≡
      Some (bare (tree_of 1 (bare (face 3) ∷ bare (face 3) ∷ [])) ∷ [])
  pub no_edge_into_faces : edges vertex_out_of_reach (face 3) ≡ []
  pub edge_to_target_alone : edges turned_face (face 2) ≡ face 3 ∷ []
  pub lower_kind_stays : results_within (in_loose (down_to Fa)) 8 at_root loose ≡ Some (loose ∷ [])
  pub compound_stays : results_within (in_loose (down_to Co)) 8 at_root loose ≡ Some (loose ∷ [])
  pub higher_kind_entered : results_within (in_loose (down_to Ve)) 8 at_root loose ≡
      Some (bare (tree_of 1 (bare (leaf 2) ∷ [])) ∷ [])
  pub emptied_stays : results_within (without_vertex (down_to Ve)) 8 at_root twofold ≡ Some (bare (leaf 1) ∷ [])
  pub emptied_goes : results_within (without_vertex pruning) 8 at_root twofold ≡ Some []
  pub nothing_is_a_compound : root_of [] ≡ bare (leaf 0)
  pub shell_and_solid_go : results_within without_face 8 at_root solid ≡
      Some (bare (tree_of 1 (bare (leaf 5) ∷ [])) ∷ [])
  pub empty_shell_stays : results_within beside_shell 8 at_root empty_shell ≡
      Some (bare (tree_of 1 (bare (leaf 2) ∷ [])) ∷ [])
