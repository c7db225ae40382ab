-- By computation.
use Rattle.expansion_laws.proofs.MeasureExampleLemmas.{measures_come_out}
use Rattle.expansion_laws.proofs.laws.measures_come_out.Goals as goal

pub returns : goal.returns
returns c = measures_come_out
