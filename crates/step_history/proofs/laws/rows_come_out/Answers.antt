-- By computation.
use Rattle.step_history.proofs.RowExampleLemmas.{rows_come_out as law}
use Rattle.step_history.proofs.laws.rows_come_out.Goals as goal

pub returns : goal.returns
returns c = law
