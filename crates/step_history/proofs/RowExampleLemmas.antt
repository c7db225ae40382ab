-- The worked histories of steps in a row, by computation.
use Rattle.std.proofs.Common.{refl}
use Rattle.std.specs.Prelude.{[], ◌∷◌}
use Rattle.expansion_laws.specs.Expansion.{tree_of_number}
use Rattle.expansion_laws.specs.Rewriting.{results_within}
use Rattle.expansion_laws.specs.Visits.{visits_within}
use Rattle.expansion_laws.specs.WholeVisits.{is_whole}
use Rattle.expansion_laws.specs.Examples.{faces, new_edge}
use Rattle.step_history.specs.Examples.{front, back}
use Rattle.step_history.specs.RowExamples.{HasHistoryOfBoth, RowsComeOut, shape, merging, sewing, first_face, right_face, later_face, later_edge, later_vertex, edge_over_vertex, halving, refining, point, one_point, no_point, third_goes, third_comes, stopping, replacing}

merged-and-sewn : HasHistoryOfBoth 3 merging sewing ((shape 2, shape 3) ∷ (shape 5, shape 6) ∷ (shape 4, shape 7) ∷ []) [] []
unfolding results_within visits_within is_whole
merged-and-sewn = record {
  in_row = (refl, (sewing.after ∷ [], (5, refl), refl), (refl, (merging.after ∷ [], (5, refl), refl), tt));
  whole = (refl, (refl, tt));
  modified_are = refl;
  generated_are = refl;
  removed_are = refl;
}

generated-three-ways : HasHistoryOfBoth 5 halving refining ((first_face, later_face) ∷ (first_face, right_face edge_over_vertex) ∷ [])
    ((first_face, later_edge) ∷ (first_face, edge_over_vertex) ∷ (first_face, later_vertex) ∷ []) []
unfolding results_within visits_within is_whole
generated-three-ways = record {
  in_row = (refl, (refining.after ∷ [], (7, refl), refl), (refl, (halving.after ∷ [], (7, refl), refl), tt));
  whole = (refl, (refl, tt));
  modified_are = refl;
  generated_are = refl;
  removed_are = refl;
}

merged-then-removed : HasHistoryOfBoth 2 one_point no_point [] [] (point 3 ∷ point 2 ∷ [])
unfolding results_within visits_within is_whole
merged-then-removed = record {
  in_row = (refl, (no_point.after ∷ [], (4, refl), refl), (refl, (one_point.after ∷ [], (4, refl), refl), tt));
  whole = (refl, (refl, tt));
  modified_are = refl;
  generated_are = refl;
  removed_are = refl;
}

removed-then-back : HasHistoryOfBoth 2 third_goes third_comes ((point 2, point 3) ∷ []) [] []
unfolding results_within visits_within is_whole
removed-then-back = record {
  in_row = (refl, (third_comes.after ∷ [], (4, refl), refl), (refl, (third_goes.after ∷ [], (4, refl), refl), tt));
  whole = (refl, (refl, tt));
  modified_are = refl;
  generated_are = refl;
  removed_are = refl;
}

stopped-then-replaced : HasHistoryOfBoth 5 stopping replacing
    ((tree_of_number faces 3, front) ∷ (tree_of_number faces 2, back) ∷
    (tree_of_number faces 6, new_edge) ∷ (tree_of_number faces 8, tree_of_number faces 7) ∷ []) [] []
unfolding results_within visits_within is_whole
stopped-then-replaced = record {
  in_row = (refl, (replacing.after ∷ [], (7, refl), refl), (refl, (stopping.after ∷ [], (7, refl), refl), tt));
  whole = (refl, (refl, tt));
  modified_are = refl;
  generated_are = refl;
  removed_are = refl;
}

pub rows_come_out : RowsComeOut
rows_come_out = record {
  merged_and_sewn = merged-and-sewn;
  generated_three_ways = generated-three-ways;
  merged_then_removed = merged-then-removed;
  removed_then_back = removed-then-back;
  stopped_then_replaced = stopped-then-replaced;
}
