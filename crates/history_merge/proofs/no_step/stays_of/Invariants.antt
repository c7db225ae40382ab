-- The pairs of the numbers so far.
use Rattle.std.proofs.Common.{take}
use Rattle.lists.specs.Gathering.{Gathers}
use Rattle.history_merge.specs.Merged.{Stays}
use Rattle.history_merge.proofs.no_step.stays_of.Given as goal

abbrev pub invariant-loop-id : goal.invariant-loop-id
invariant-loop-id l = Gathers (Stays l.pool) (take l.id-index l.id-items) l.pairs.items
