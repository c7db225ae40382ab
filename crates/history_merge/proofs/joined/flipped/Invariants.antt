-- The pairs so far, the other way round.
use Rattle.std.proofs.Common.{take}
use Rattle.lists.specs.Gathering.{Gathers}
use Rattle.history_merge.specs.Joined.{IsFlipped}
use Rattle.history_merge.proofs.joined.flipped.Given as goal

abbrev pub invariant-loop-pair : goal.invariant-loop-pair
invariant-loop-pair l = Gathers IsFlipped (take l.pair-index l.pairs) l.out.items
