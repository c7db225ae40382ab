-- The worked histories of one change, by computation.
use Rattle.std.proofs.Common.{refl}
use Rattle.std.specs.Prelude.{[], ◌∷◌}
use Rattle.expansion_laws.specs.Trees.{tree_of}
use Rattle.expansion_laws.specs.Expansion.{tree_of_number, expansion}
use Rattle.expansion_laws.specs.Contexts.{bare}
use Rattle.expansion_laws.specs.Rewriting.{results_within}
use Rattle.expansion_laws.specs.Visits.{visits_within}
use Rattle.expansion_laws.specs.WholeVisits.{is_whole}
use Rattle.expansion_laws.specs.Examples.{plus, wires, by_wire, after_wire, faces, by_vertex, after_vertex, new_edge, solids, at_place, after_place}
use Rattle.step_history.specs.Changes.{by_requests}
use Rattle.step_history.specs.Examples.{HasHistory, HistoriesComeOut, twofold, without, without_history, pruned_away, wire_history, front, back, vertex_history, until_faces, until_faces_history, moved_solid, place_history, boxes, pruned_box, after_box, box_history, removed_at_stop, new_face, face_at_stop, before_stop, after_stop, stop_history, old_edge, other_edge, coming_back, before_back, after_back, back_history, last_edge, face_over, twice_replaced, before_twice, after_twice, twice_history, known, face_of_both, brought_face, before_brought, after_brought, brought_history}

vertex-removed : HasHistory without 1 (expansion twofold (plus 1)) (bare (tree_of 1 [])) without_history []
unfolding results_within visits_within is_whole
vertex-removed = record { makes = ((bare (tree_of 1 [])) ∷ [], (3, refl), refl); whole = refl; lists_are = refl; modified_are = refl }

compound-pruned : HasHistory pruned_away 1 (expansion twofold (plus 1)) (bare (tree_of 0 [])) without_history []
unfolding results_within visits_within is_whole
compound-pruned = record { makes = ([], (3, refl), refl); whole = refl; lists_are = refl; modified_are = refl }

edge-by-wire : HasHistory (by_requests by_wire) 4 (expansion wires (plus 1)) after_wire wire_history
    ((tree_of_number wires 6, tree_of_number wires 5) ∷ (tree_of_number wires 6, tree_of_number wires 4) ∷ [])
unfolding results_within visits_within is_whole
edge-by-wire = record { makes = (after_wire ∷ [], (6, refl), refl); whole = refl; lists_are = refl; modified_are = refl }

shared-edge : HasHistory (by_requests by_vertex) 5 (expansion faces (plus 1)) after_vertex vertex_history
    ((tree_of_number faces 3, front) ∷ (tree_of_number faces 6, new_edge) ∷ (tree_of_number faces 8, tree_of_number faces 7) ∷
    (tree_of_number faces 2, back) ∷ (tree_of_number faces 6, new_edge) ∷ (tree_of_number faces 8, tree_of_number faces 7) ∷ [])
unfolding results_within visits_within is_whole
shared-edge = record { makes = (after_vertex ∷ [], (7, refl), refl); whole = refl; lists_are = refl; modified_are = refl }

stopped-at-faces : HasHistory until_faces 1 (expansion faces (plus 1)) (expansion faces (plus 1)) until_faces_history []
unfolding results_within visits_within is_whole
stopped-at-faces = record { makes = ((expansion faces (plus 1)) ∷ [], (3, refl), refl); whole = refl; lists_are = refl; modified_are = refl }

face-at-place : HasHistory (by_requests at_place) 4 (expansion solids (plus 1)) after_place place_history
    ((tree_of_number solids 2, moved_solid) ∷ (tree_of_number solids 6, tree_of_number solids 4) ∷ [])
unfolding results_within visits_within is_whole
face-at-place = record { makes = (after_place ∷ [], (6, refl), refl); whole = refl; lists_are = refl; modified_are = refl }

solid-pruned : HasHistory pruned_box 3 (expansion boxes (plus 1)) after_box box_history []
unfolding results_within visits_within is_whole
solid-pruned = record { makes = (after_box ∷ [], (5, refl), refl); whole = refl; lists_are = refl; modified_are = refl }

solid-removed-at-stop : HasHistory removed_at_stop 1 (expansion boxes (plus 1)) after_box box_history []
unfolding results_within visits_within is_whole
solid-removed-at-stop = record { makes = (after_box ∷ [], (3, refl), refl); whole = refl; lists_are = refl; modified_are = refl }

face-replaced-at-stop : HasHistory face_at_stop 2 before_stop after_stop stop_history
    ((tree_of 2 [], new_face) ∷ [])
unfolding results_within visits_within is_whole
face-replaced-at-stop = record { makes = (after_stop ∷ [], (4, refl), refl); whole = refl; lists_are = refl; modified_are = refl }

edge-comes-back : HasHistory coming_back 3 before_back after_back back_history
    ((other_edge, old_edge) ∷ (tree_of 5 [], tree_of 4 []) ∷ [])
unfolding results_within visits_within is_whole
edge-comes-back = record { makes = (after_back ∷ [], (5, refl), refl); whole = refl; lists_are = refl; modified_are = refl }

edge-twice-replaced : HasHistory twice_replaced 6 before_twice after_twice twice_history
    ((face_over (tree_of 2 []), face_over last_edge) ∷ (tree_of 2 [], last_edge) ∷ [])
unfolding results_within visits_within is_whole
edge-twice-replaced = record { makes = (after_twice ∷ [], (8, refl), refl); whole = refl; lists_are = refl; modified_are = refl }

face-brought : HasHistory brought_face 6 before_brought after_brought brought_history
    ((tree_of 2 [], face_of_both (tree_of 6 []) (tree_of 11 [])) ∷
    (known (tree_of 5 []), known (tree_of 6 [])) ∷ (tree_of 5 [], tree_of 6 []) ∷
    (known (tree_of 5 []), known (tree_of 6 [])) ∷ (tree_of 5 [], tree_of 6 []) ∷ [])
unfolding results_within visits_within is_whole
face-brought = record { makes = (after_brought ∷ [], (8, refl), refl); whole = refl; lists_are = refl; modified_are = refl }

pub histories_come_out : HistoriesComeOut
histories_come_out = record {
  vertex_removed = vertex-removed;
  compound_pruned = compound-pruned;
  edge_by_wire = edge-by-wire;
  shared_edge = shared-edge;
  stopped_at_faces = stopped-at-faces;
  face_at_place = face-at-place;
  solid_pruned = solid-pruned;
  solid_removed_at_stop = solid-removed-at-stop;
  face_replaced_at_stop = face-replaced-at-stop;
  edge_comes_back = edge-comes-back;
  edge_twice_replaced = edge-twice-replaced;
  face_brought = face-brought;
}
