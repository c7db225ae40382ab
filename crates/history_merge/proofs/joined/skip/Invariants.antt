-- The firsts so far are below the number.
use Rattle.history_merge.specs.Joined.{AreBefore}
use Rattle.history_merge.proofs.joined.skip.Given as goal

abbrev pub invariant-loop-at : goal.invariant-loop-at
invariant-loop-at l = AreBefore l.pairs l.at l.middle.0
