use Rattle.std.proofs.Common.{take}
use Rattle.std.specs.List.{flat_map}
use Rattle.shape_pool.specs.declared.node.UseOf.{UseOf}
use Rattle.shape_pool.specs.Rows.{uses_at}
use Rattle.written_layout.specs.Layout.{spaced_use}
use Rattle.brep_writer.specs.Plans.{use_in_file}
use Rattle.brep_writer.proofs.plan.WritePlan.put_uses.Given as goal

abbrev pub invariant-uses : goal.invariant-uses
invariant-uses g l =
    g.B.TakesBytes.gives l.initial.text
    (flat_map (λ (u : UseOf). spaced_use (use_in_file l.self u)) (take l.at (uses_at l.self.source.pool.now l.id.0)))
    l.text
