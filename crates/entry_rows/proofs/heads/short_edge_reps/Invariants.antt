-- All decimals so far fit.
use Rattle.std.proofs.Common.{take}
use Rattle.std.specs.List.{AllByRecursion}
use Rattle.tshape_data.specs.Short.{IsShortEdgeRep}
use Rattle.entry_rows.proofs.heads.short_edge_reps.Given as goal

abbrev pub invariant-loop-at : goal.invariant-loop-at
invariant-loop-at l = AllByRecursion IsShortEdgeRep (take l.at l.reps)
