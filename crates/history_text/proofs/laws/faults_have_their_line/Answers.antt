use Rattle.history_text.proofs.ReadingLaws.{faults_placed}
use Rattle.history_text.proofs.laws.faults_have_their_line.Goals as goal

pub returns : goal.returns
returns c = faults_placed c.forms_are_exact.ensures
