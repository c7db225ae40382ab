-- The worked examples of the rule, by computation.
use Rattle.std.proofs.Common.{refl}
use Rattle.expansion_laws.specs.Rewriting.{results_within}
use Rattle.expansion_laws.specs.Visits.{visits_within}
use Rattle.expansion_laws.specs.RuleExamples.{RuleExamplesComeOut}

pub rule_examples_come_out : RuleExamplesComeOut
unfolding results_within visits_within
rule_examples_come_out = record {
  faces_stay = refl;
  faces_are_visited_last = refl;
  face_replaced = refl;
  no_edge_into_faces = refl;
  edge_to_target_alone = refl;
  lower_kind_stays = refl;
  compound_stays = refl;
  higher_kind_entered = refl;
  emptied_stays = refl;
  emptied_goes = refl;
  nothing_is_a_compound = refl;
  shell_and_solid_go = refl;
  empty_shell_stays = refl;
}
