-- The words of all uses are held.
use Rattle.std.proofs.Common.{length}
use Rattle.shape_pool.specs.Rows.{HasPlaces}
use Rattle.pool_rows.proofs.pools.carried_out.Given as goal

abbrev pub invariant-loop-statement : goal.invariant-loop-statement
invariant-loop-statement l = HasPlaces l.scene.pool (length l.words)
