-- The requests so far name held nodes.
use Rattle.requests.specs.Numbered.{AreHeldIn}
use Rattle.pool_rows.proofs.checks.requests_row.Given as goal

abbrev pub invariant-loop-statement : goal.invariant-loop-statement
invariant-loop-statement l = AreHeldIn l.scene.pool l.table.requests
