-- The draws are computed.
use Rattle.std.proofs.Common.{refl}
use Rattle.brep_gen.specs.Draws.{state_at}
use Rattle.brep_gen.proofs.laws.draws_come_out.Goals as goal

pub returns : goal.returns
unfolding state_at
returns c = record { first = refl; second = refl; third = refl; later = refl }
