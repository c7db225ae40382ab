-- The nodes so far are held.
use Rattle.std.proofs.Common.{◌<◌, All, length}
use Rattle.shape_pool.specs.declared.node.NodeId.{NodeId}
use Rattle.pool_rows.proofs.sews.nodes_of.Given as goal

abbrev pub invariant-loop-one : goal.invariant-loop-one
invariant-loop-one l = All (λ (m : NodeId). m.0 < length l.scene.pool) l.ids.items
