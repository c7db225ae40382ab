use Rattle.std.proofs.Common.{length}
use Rattle.brep_desk.proofs.outputs.+place.Given as goal

abbrev pub decreases-place : goal.decreases-place
decreases-place l = length l.outputs.now
