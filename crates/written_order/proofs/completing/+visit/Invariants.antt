use Rattle.std.proofs.Common.{◌≡◌, ◌<◌, All, length, take}
use Rattle.shape_pool.specs.Laws.{ids_used}
use Rattle.written_order.specs.Numbering.{CompletesAll, NoneFrom}
use Rattle.written_order.proofs.completing.+visit.Given as goal

abbrev pub decreases-visit : goal.decreases-visit
decreases-visit l = l.id.0

abbrev pub invariant-uses : goal.invariant-uses
invariant-uses l = record {
  room : l.order.room ≡ l.initial.order.room;
  held : All (λ i. i < length l.pool) l.order.numbers;
  completed : CompletesAll (length l.pool) (ids_used l.pool) (take l.at (ids_used l.pool l.id.0))
      l.initial.order.numbers l.order.numbers;
  stay : NoneFrom l.id.0 l.initial.order.numbers l.order.numbers;
}
