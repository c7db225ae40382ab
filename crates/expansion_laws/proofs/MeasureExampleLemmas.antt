-- The worked measures, by computation.
use Rattle.std.proofs.Common.{refl}
use Rattle.expansion_laws.specs.Expansion.{expansion}
use Rattle.expansion_laws.specs.Examples.{plus, wires, by_wire, faces, solids, at_place, placed, at_one}
use Rattle.expansion_laws.specs.Rewriting.{results_within}
use Rattle.expansion_laws.specs.Visits.{visits_within}
use Rattle.expansion_laws.specs.WholeVisits.{is_whole}
use Rattle.expansion_laws.specs.RuleExamples.{vertex_out_of_reach, solid, without_face}
use Rattle.expansion_laws.specs.SlowMeasures.{is_ranked, reaches_within}
use Rattle.expansion_laws.specs.MeasureExamples.{HasMeasures, MeasuresComeOut}

edge-by-wire : HasMeasures by_wire 4 (expansion wires (plus 1)) 8 0 16
unfolding results_within visits_within is_whole is_ranked reaches_within
edge-by-wire = record { whole = refl; ranked = refl; keys_are = refl; word_keys_are = refl; uses_are = refl }

face-at-place : HasMeasures at_place 4 (expansion solids (plus 1)) 9 7 17
unfolding results_within visits_within is_whole is_ranked reaches_within
face-at-place = record { whole = refl; ranked = refl; keys_are = refl; word_keys_are = refl; uses_are = refl }

vertex-at-place : HasMeasures at_one 3 (expansion placed (plus 1)) 8 7 14
unfolding results_within visits_within is_whole is_ranked reaches_within
vertex-at-place = record { whole = refl; ranked = refl; keys_are = refl; word_keys_are = refl; uses_are = refl }

down-to-faces : HasMeasures vertex_out_of_reach 1 (expansion faces (plus 1)) 3 0 5
unfolding results_within visits_within is_whole is_ranked reaches_within
down-to-faces = record { whole = refl; ranked = refl; keys_are = refl; word_keys_are = refl; uses_are = refl }

face-pruned : HasMeasures without_face 3 solid 5 0 3
unfolding results_within visits_within is_whole is_ranked reaches_within
face-pruned = record { whole = refl; ranked = refl; keys_are = refl; word_keys_are = refl; uses_are = refl }

pub measures_come_out : MeasuresComeOut
unfolding results_within visits_within reaches_within
measures_come_out = record {
  edge_by_wire = edge-by-wire;
  face_at_place = face-at-place;
  vertex_at_place = vertex-at-place;
  down_to_faces = down-to-faces;
  face_pruned = face-pruned;
  moved_back = refl;
  stays_there = refl;
  not_moved_on = refl;
  held_after = refl;
}
