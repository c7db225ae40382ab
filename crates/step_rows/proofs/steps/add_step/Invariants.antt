-- The ledger of the one counter.
use Rattle.step_rows.proofs.steps.add_step.Given as goal

abbrev pub ghosts-carried_out : goal.ghosts-carried_out
ghosts-carried_out a = record { name = a.blank.name; parts = a.blank.parts }
