-- The origins of the last ones.
use Rattle.std.proofs.Common.{◌≡◌, map, reverse, take}
use Rattle.shape_pool.specs.Rows.{origin_at}
use Rattle.written_history.specs.Numbered.{AreSmall}
use Rattle.written_history.proofs.told.origins_of.Given as goal

abbrev pub invariant-loop-place : goal.invariant-loop-place
invariant-loop-place l =
    (l.origins ≡ take l.place (reverse (map (origin_at l.pool) l.order.numbers))) × AreSmall l.origins
