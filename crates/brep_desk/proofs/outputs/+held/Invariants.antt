use Rattle.std.proofs.Common.{length}
use Rattle.brep_desk.proofs.outputs.+held.Given as goal

abbrev pub decreases-held : goal.decreases-held
decreases-held l = length l.files.now
