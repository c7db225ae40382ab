-- The words of all uses are held.
use Rattle.std.proofs.Common.{length}
use Rattle.shape_pool.specs.Rows.{HasPlaces}
use Rattle.pool_rows.proofs.pools.make_many.Given as goal

abbrev pub invariant-loop-before : goal.invariant-loop-before
invariant-loop-before l = HasPlaces l.pool (length l.words)
