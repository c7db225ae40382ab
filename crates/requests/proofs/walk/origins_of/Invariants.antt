-- The origins of the places gone through.
use Rattle.std.proofs.Common.{◌≡◌, take, map}
use Rattle.shape_pool.specs.Rows.{origin_at}
use Rattle.requests.specs.Reached.{met_at}
use Rattle.requests.proofs.walk.origins_of.Given as goal

abbrev pub invariant-loop-p : goal.invariant-loop-p
invariant-loop-p l = l.walk ≡ map (λ p. origin_at l.pool (met_at l.nodes.keys p)) (take l.p-index l.places)
