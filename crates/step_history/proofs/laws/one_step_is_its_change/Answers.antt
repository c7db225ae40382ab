-- The history over no step relates each tree with itself.
use Rattle.step_history.proofs.CompositionLemmas.{one-step}
use Rattle.step_history.proofs.laws.one_step_is_its_change.Goals as goal

pub returns : goal.returns
returns c = one-step
