-- The new ones of the pairs so far.
use Rattle.std.proofs.Common.{take}
use Rattle.lists.specs.Gathering.{Gathers}
use Rattle.step_history.specs.Gathering.{IsFresh}
use Rattle.step_history.proofs.kept.fresh_of.Given as goal

abbrev pub invariant-loop-pair : goal.invariant-loop-pair
invariant-loop-pair l = Gathers (IsFresh l.input) (take l.pair-index l.images) l.fresh
