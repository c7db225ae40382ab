use Rattle.std.proofs.Common.{take}
use Rattle.shape_listing.specs.ByNumber.{rows_lines_at}
use Rattle.shape_listing.proofs.above.push_rows.Given as goal

abbrev pub invariant-loop-row : goal.invariant-loop-row
invariant-loop-row g l =
    g.B.TakesBytes.gives l.initial.text (rows_lines_at l.words l.pool (take l.row-index l.rows)) l.text
