-- The pairs so far are kept.
use Rattle.std.proofs.Common.{take}
use Rattle.lists.specs.Gathering.{Gathers}
use Rattle.step_history.specs.Gathering.{IsKept}
use Rattle.step_history.proofs.kept.images_of.Given as goal

abbrev pub invariant-loop-pair : goal.invariant-loop-pair
invariant-loop-pair l = Gathers (IsKept l.pool l.input) (take l.pair-index l.images) l.kept.items
