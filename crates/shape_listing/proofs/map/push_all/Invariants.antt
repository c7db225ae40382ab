use Rattle.std.proofs.Common.{take}
use Rattle.shape_listing.specs.ByNumber.{lines_at}
use Rattle.shape_listing.proofs.map.push_all.Given as goal

abbrev pub invariant-loop-at : goal.invariant-loop-at
invariant-loop-at g l =
    g.B.TakesBytes.gives l.initial.text (lines_at l.words l.pool (take l.at-index l.shapes)) l.text
