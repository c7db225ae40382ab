-- A token is due at each word.
use Rattle.tshape_data.specs.HeadLeft.{IsWaiting}
use Rattle.entry_rows.proofs.heads.head.Given as goal

abbrev pub invariant-loop-word : goal.invariant-loop-word
invariant-loop-word l =
    goal.iterator-loop-word.can_next l.word-iterator ×
    goal.iterator-loop-word.is_finite l.word-iterator ×
    IsWaiting l.reader
