-- What was made of the pairs so far is listed, and so is what the walk met.
use Rattle.std.proofs.Common.{take}
use Rattle.lists.specs.Gathering.{Gathers}
use Rattle.step_history.specs.Gathering.{IsMadeOf, IsWalk}
use Rattle.step_history.proofs.made.made_of.Given as goal

abbrev pub invariant-loop-pair : goal.invariant-loop-pair
invariant-loop-pair l = record {
  gathered : Gathers (IsMadeOf l.pool l.input l.fresh) (take l.pair-index l.pair-items) l.out.items;
  walked : IsWalk l.pool l.fresh l.walk.from l.walk.met l.out.items;
}
