-- Step by step.
use Rattle.step_history.proofs.StandingLemmas.{pairs-stand}
use Rattle.step_history.proofs.laws.pairs_stand.Goals as goal

pub returns : goal.returns
returns c = pairs-stand c.subtrees_stand.ensures c.words_are_a_group.ensures c.results_are_gathered.ensures c.results_of_visits_occur.ensures
