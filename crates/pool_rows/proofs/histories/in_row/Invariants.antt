-- The root that was reached is held, and so is the history so far.
use Rattle.std.proofs.Common.{◌<◌, length}
use Rattle.step_history.specs.Numbered.{IsHeld}
use Rattle.pool_rows.proofs.histories.in_row.Given as goal

abbrev pub invariant-loop-text : goal.invariant-loop-text
invariant-loop-text l = (l.row.root.0 < length l.scene.pool) × IsHeld l.scene.pool l.row.history
