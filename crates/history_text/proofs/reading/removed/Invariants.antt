use Rattle.std.proofs.Common.{◌≡◌}
use Rattle.history_text.specs.LineForms.{removed_due}
use Rattle.history_text.specs.Reading.{lines_at, removed_at}
use Rattle.history_text.proofs.reading.removed.Given as goal

abbrev pub invariant-lines : goal.invariant-lines
invariant-lines l = lines_at removed_due l.said l.due l.lines ≡ removed_at l.fn.lines

abbrev pub decreases-lines : goal.decreases-lines
decreases-lines l = l.due
