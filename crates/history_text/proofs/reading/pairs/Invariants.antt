use Rattle.std.proofs.Common.{◌≡◌}
use Rattle.history_text.specs.LineForms.{pair_due}
use Rattle.history_text.specs.Reading.{lines_at, pairs_at}
use Rattle.history_text.proofs.reading.pairs.Given as goal

abbrev pub invariant-lines : goal.invariant-lines
invariant-lines l = lines_at (pair_due l.written) l.said l.due l.lines ≡ pairs_at l.word l.written l.fn.lines

abbrev pub decreases-lines : goal.decreases-lines
decreases-lines l = l.due
