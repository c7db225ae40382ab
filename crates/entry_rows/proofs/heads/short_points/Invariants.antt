-- All decimals so far fit.
use Rattle.std.proofs.Common.{take}
use Rattle.std.specs.List.{AllByRecursion}
use Rattle.tshape_data.specs.Short.{IsShortPoint}
use Rattle.entry_rows.proofs.heads.short_points.Given as goal

abbrev pub invariant-loop-at : goal.invariant-loop-at
invariant-loop-at l = AllByRecursion IsShortPoint (take l.at l.reps)
