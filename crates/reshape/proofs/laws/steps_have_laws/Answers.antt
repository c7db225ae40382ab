-- One law after the other.
use Rattle.reshape.proofs.laws.steps_have_laws.Goals as goal

pub returns : goal.returns
returns c = λ s. record {
  stand = c.keys_stand_for_visits.ensures s;
  keys_tell = c.equal_keys_tell.ensures;
  determined = c.results_are_determined.ensures s;
  have_keys = c.visits_have_keys.ensures s;
  carry = c.results_are_carried.ensures s;
  measures = c.measures_are_listed.ensures.determined s;
  occur = c.results_of_visits_occur.ensures s;
  kinds = c.results_have_the_kind.ensures s;
  demands_are = c.demands_are_edges.ensures s;
  follow = c.results_follow_visits.ensures;
  derive = c.derivations_derive.ensures s;
}
