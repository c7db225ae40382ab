-- The uses of the parts so far.
use Rattle.std.proofs.Common.{◌≡◌, take}
use Rattle.shape_pool.specs.declared.node.NodeId.{NodeId}
use Rattle.key_results.specs.Grown.{node_uses}
use Rattle.key_results.proofs.rebuild.uses_of.Given as goal

abbrev pub invariant-loop-part : goal.invariant-loop-part
invariant-loop-part l = (d : NodeId) → l.uses.items ≡ node_uses d l.nodes (take l.part-index l.parts)
