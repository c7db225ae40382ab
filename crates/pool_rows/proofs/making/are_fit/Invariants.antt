-- The uses so far may stand in a node of the kind.
use Rattle.std.proofs.Common.{length, take}
use Rattle.shape_pool.specs.Rows.{AllBelow, AllHeld, AllPlaced}
use Rattle.pool_rows.proofs.making.are_fit.Given as goal

abbrev pub invariant-loop-one : goal.invariant-loop-one
invariant-loop-one l =
    AllHeld l.pool (take l.one-index l.uses) × AllBelow l.pool l.kind (take l.one-index l.uses) ×
    AllPlaced (length l.words) (take l.one-index l.uses)
