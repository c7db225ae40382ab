-- The lost ones of the numbers so far.
use Rattle.std.proofs.Common.{take}
use Rattle.lists.specs.Gathering.{Gathers}
use Rattle.step_history.specs.Gathering.{IsLost}
use Rattle.step_history.proofs.kept.lost_of.Given as goal

abbrev pub invariant-loop-id : goal.invariant-loop-id
invariant-loop-id l = Gathers (IsLost l.pool l.output l.firsts) (take l.id-index l.id-items) l.lost.items
