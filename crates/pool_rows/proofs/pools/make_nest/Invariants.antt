-- The words of all uses are held.
use Rattle.std.proofs.Common.{length}
use Rattle.shape_pool.specs.Rows.{HasPlaces}
use Rattle.pool_rows.proofs.pools.make_nest.Given as goal

abbrev pub invariant-loop : goal.invariant-loop
invariant-loop l = HasPlaces l.scene.pool (length l.words)
