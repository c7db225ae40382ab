-- The ledger of the one counter.
use Rattle.pool_rows.proofs.making.rebuild.Given as goal

abbrev pub ghosts-rebuilt : goal.ghosts-rebuilt
ghosts-rebuilt a = record { name = a.blank.name; parts = a.blank.parts }
