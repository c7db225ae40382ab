use Rattle.std.proofs.Common.{take}
use Rattle.shape_listing.specs.ByNumber.{high_lines_at}
use Rattle.shape_listing.proofs.above.push_high.Given as goal

abbrev pub invariant-loop-at : goal.invariant-loop-at
invariant-loop-at g l =
    g.B.TakesBytes.gives l.initial.text (high_lines_at l.words l.pool (take l.at-index l.shapes)) l.text
