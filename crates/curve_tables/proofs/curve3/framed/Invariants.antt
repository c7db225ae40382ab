use Rattle.std.proofs.Common.{◌≡◌, length}
use Rattle.curve_tables.specs.Curves.{framed3}
use Rattle.curve_tables.proofs.curve3.framed.Given as goal

abbrev pub invariant-frames : goal.invariant-frames
invariant-frames l = framed3 l.frames l.curve ≡ framed3 l.fn.frames l.fn.leaf

abbrev pub decreases-frames : goal.decreases-frames
decreases-frames l = length l.frames
