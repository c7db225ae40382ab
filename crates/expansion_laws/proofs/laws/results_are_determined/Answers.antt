-- Further levels change no results.
use Rattle.expansion_laws.proofs.LevelLemmas.{Rewrites-one}
use Rattle.expansion_laws.proofs.laws.results_are_determined.Goals as goal

pub returns : goal.returns
returns c = Rewrites-one
