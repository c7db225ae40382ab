-- The requests so far name held nodes.
use Rattle.requests.specs.Numbered.{AreHeldIn}
use Rattle.pool_rows.proofs.asking.chain.Given as goal

abbrev pub invariant-loop-step : goal.invariant-loop-step
invariant-loop-step l = AreHeldIn l.pool l.table.requests
