-- The pairs so far are added.
use Rattle.std.proofs.Common.{take}
use Rattle.lists.specs.Gathering.{Adds}
use Rattle.history_merge.specs.Joined.{IsOnto}
use Rattle.history_merge.proofs.joined.spread.Given as goal

abbrev pub invariant-loop-at : goal.invariant-loop-at
invariant-loop-at l = Adds (IsOnto (take l.at l.pairs) l.middle l.first) l.fn.out.items l.out.items
