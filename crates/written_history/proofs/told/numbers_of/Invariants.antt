-- The origins so far.
use Rattle.std.proofs.Common.{take}
use Rattle.lists.specs.Gathering.{Gathers}
use Rattle.written_history.specs.Numbered.{AreSmall, IsOriginOf}
use Rattle.written_history.proofs.told.numbers_of.Given as goal

abbrev pub invariant-loop-id : goal.invariant-loop-id
invariant-loop-id l =
    Gathers (IsOriginOf l.pool) (take l.id-index l.removed) l.numbers.items × AreSmall l.numbers.items
