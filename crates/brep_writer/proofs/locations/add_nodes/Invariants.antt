use Rattle.std.proofs.Common.{take}
use Rattle.std.specs.Prelude.{map}
use Rattle.shape_pool.specs.declared.node.NodeId.{NodeId}
use Rattle.brep_writer.specs.Located.{AddsNodes}
use Rattle.brep_writer.proofs.locations.add_nodes.Given as goal

abbrev pub invariant-loop-id : goal.invariant-loop-id
invariant-loop-id l =
    AddsNodes l.source (map (λ (n : NodeId). n.0) (take l.id-index l.id-items)) l.initial.locations l.locations
