-- Those so far that came new are added.
use Rattle.std.proofs.Common.{take}
use Rattle.lists.specs.Gathering.{Adds}
use Rattle.step_history.specs.Gathering.{IsPicked}
use Rattle.step_history.proofs.made.pick.Given as goal

abbrev pub invariant-loop-id : goal.invariant-loop-id
invariant-loop-id l = Adds (IsPicked l.pool l.fresh l.from (take l.id-index l.ids)) l.fn.out.items l.out.items
