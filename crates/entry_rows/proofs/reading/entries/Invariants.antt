-- A token is due at each word.
use Rattle.std.proofs.Common.{◌<◌}
use Rattle.entry_rows.proofs.reading.entries.Given as goal

abbrev pub invariant-loop-word : goal.invariant-loop-word
invariant-loop-word g l =
    (goal.iterator-loop-word g).can_next l.word-iterator ×
    (goal.iterator-loop-word g).is_finite l.word-iterator ×
    (0 < l.section.due) × g.R.EntryReader.waits l.section.reader
