use Rattle.std.proofs.Common.{take}
use Rattle.std.specs.List.{flat_map}
use Rattle.brep_tokens.specs.Written.{lines_text}
use Rattle.shape_pool.specs.declared.node.NodeId.{NodeId}
use Rattle.written_layout.specs.Layout.{record_lines}
use Rattle.brep_writer.specs.Plans.{record_in}
use Rattle.brep_writer.proofs.plan.WritePlan.put_records.Given as goal

abbrev pub invariant-loop-id : goal.invariant-loop-id
invariant-loop-id g l =
    g.B.TakesBytes.gives l.initial.text
    (flat_map (λ (n : NodeId). lines_text (record_lines l.self.version (record_in l.self n.0)))
    (take l.id-index l.id-items)) l.text
