-- What every pool keeps says all of it.
use Rattle.std.proofs.Common.{subst}
use Rattle.shape_pool.specs.Laws.{IsSound}
use Rattle.shape_pool.proofs.CallLaws.{sound}
use Rattle.shape_pool.proofs.pool.Pool.laws.Goals as goal

pub returns : goal.returns
returns c = subst IsSound c.self.view_is (sound _ c.self.invariant.rows)
