-- An empty pool.
use Rattle.std.proofs.Common.{sym, subst}
use Rattle.shape_pool.specs.Held.{IsIndex}
use Rattle.shape_pool.proofs.IndexLaws.{IsIndex-empty}
use Rattle.shape_pool.proofs.pool.Pool.new.Goals as goal

pub invariant_of-result : goal.invariant_of-result
invariant_of-result c = subst IsIndex (sym c.new.ensures) IsIndex-empty
