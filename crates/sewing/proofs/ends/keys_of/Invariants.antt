-- The keys of the uses so far.
use Rattle.std.proofs.Common.{◌≡◌, map, take}
use Rattle.shape_pool.specs.Rows.{uses_at}
use Rattle.sewing.specs.Asked.{turned}
use Rattle.sewing.specs.Keys.{key_of}
use Rattle.sewing.proofs.ends.keys_of.Given as goal

abbrev pub invariant-loop-at : goal.invariant-loop-at
invariant-loop-at l = l.keys.items ≡ map (λ u. key_of (turned l.sign u)) (take l.at (uses_at l.pool l.id.0))
