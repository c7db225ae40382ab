-- The plan of a check carries out the step of the table.
use Rattle.std.proofs.Common.{length}
use Rattle.step_rows.proofs.ReadyLaws.{carried}
use Rattle.step_rows.proofs.steps.add_step.Goals as goal

pub carried_out-requires-clause-plan : goal.carried_out-requires-clause-plan
carried_out-requires-clause-plan c = (
  c.args.table.now,
  carried c.args.pool.now (length c.args.words.now) c.args.root.id.0 _ c.args.table.now c.in-Ok.ensures.plan
      c.requires.ready,
)
