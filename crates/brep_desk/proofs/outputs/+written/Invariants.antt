use Rattle.std.proofs.Common.{length}
use Rattle.brep_desk.proofs.outputs.+written.Given as goal

abbrev pub decreases-written : goal.decreases-written
decreases-written l = length l.outputs.now
