-- The pairs so far.
use Rattle.std.proofs.Common.{take}
use Rattle.lists.specs.Gathering.{Gathers}
use Rattle.written_history.specs.Numbered.{AreSmallPairs, IsPairOf}
use Rattle.written_history.proofs.told.pairs_of.Given as goal

abbrev pub invariant-loop-pair : goal.invariant-loop-pair
invariant-loop-pair l =
    Gathers (IsPairOf l.pool l.order.numbers) (take l.pair-index l.generated) l.pairs.items × AreSmallPairs l.pairs.items
