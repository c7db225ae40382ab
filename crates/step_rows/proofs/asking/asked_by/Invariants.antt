-- The requests so far may be carried out.
use Rattle.std.proofs.Common.{length}
use Rattle.step_rows.specs.Ready.{AreReady}
use Rattle.step_rows.proofs.asking.asked_by.Given as goal

abbrev pub invariant-loop-line : goal.invariant-loop-line
invariant-loop-line l = AreReady l.pool (length l.words) l.table.requests
