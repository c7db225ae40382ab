use Rattle.std.proofs.Common.{◌≡◌, length}
use Rattle.surface_tables.specs.Frames.{framed}
use Rattle.surface_tables.proofs.surface.framed.Given as goal

abbrev pub invariant-frames : goal.invariant-frames
invariant-frames l = framed l.frames l.surface ≡ framed l.fn.frames l.fn.leaf

abbrev pub decreases-frames : goal.decreases-frames
decreases-frames l = length l.frames
