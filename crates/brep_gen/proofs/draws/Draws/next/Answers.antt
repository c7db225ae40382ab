-- The draw is the new state without its lowest bits.
use Rattle.std.proofs.Common.{◌*◌, ◌/◌, ◌^◌, ap}
use Rattle.brep_gen.specs.Draws.{state_at}
use Rattle.brep_gen.proofs.DrawLemmas.{mod_dropped}
use Rattle.brep_gen.proofs.draws.Draws.next.Goals as goal

pub returns-clause-drawn : goal.returns-clause-drawn
unfolding state_at
returns-clause-drawn c =
    ap (λ t. t / 2 ^ 33) (mod_dropped (2 ^ 64) (c.args.self.now.state * 6364136223846793005) 1442695040888963407)
