-- The pairs so far are of held nodes.
use Rattle.step_history.specs.Numbered.{ArePairsHeld}
use Rattle.pool_rows.proofs.histories.pairs_of.Given as goal

abbrev pub invariant-loop-one : goal.invariant-loop-one
invariant-loop-one l = ArePairsHeld l.scene.pool l.pairs
