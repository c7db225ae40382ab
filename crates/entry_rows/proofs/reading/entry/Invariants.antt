-- A token is due at each word.
use Rattle.entry_rows.proofs.reading.entry.Given as goal

abbrev pub invariant-loop-word : goal.invariant-loop-word
invariant-loop-word g l =
    (goal.iterator-loop-word g).can_next l.word-iterator ×
    (goal.iterator-loop-word g).is_finite l.word-iterator ×
    g.R.EntryReader.waits l.reader
