use Rattle.std.proofs.Common.{◌≡◌}
use Rattle.history_text.specs.LineForms.{origin_due}
use Rattle.history_text.specs.Reading.{lines_at, origins_at}
use Rattle.history_text.proofs.reading.origins.Given as goal

abbrev pub invariant-lines : goal.invariant-lines
invariant-lines l = lines_at origin_due l.said l.due l.lines ≡ origins_at l.fn.lines

abbrev pub decreases-lines : goal.decreases-lines
decreases-lines l = l.due
