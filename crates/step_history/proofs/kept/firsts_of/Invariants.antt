-- The firsts of the pairs so far.
use Rattle.std.proofs.Common.{take}
use Rattle.lists.specs.Gathering.{Gathers}
use Rattle.step_history.specs.Gathering.{IsFirst}
use Rattle.step_history.proofs.kept.firsts_of.Given as goal

abbrev pub invariant-loop-pair : goal.invariant-loop-pair
invariant-loop-pair l = Gathers IsFirst (take l.pair-index l.pairs) l.firsts
