-- The changes among the pairs so far.
use Rattle.std.proofs.Common.{take}
use Rattle.lists.specs.Gathering.{Gathers}
use Rattle.written_history.specs.Numbered.{AreSmallPairs, IsChangeOf}
use Rattle.written_history.proofs.told.changes_of.Given as goal

abbrev pub invariant-loop-pair : goal.invariant-loop-pair
invariant-loop-pair l =
    Gathers (IsChangeOf l.pool l.order.numbers) (take l.pair-index l.images) l.pairs.items × AreSmallPairs l.pairs.items
