-- As many marks as the loop went through.
use Rattle.std.proofs.Common.{◌≡◌}
use Rattle.std.specs.Prelude.{replicate}
use Rattle.graph_walks.specs.declared.depth_first.Mark.TheVariants.{New}
use Rattle.graph_walks.proofs.depth_first.new_marks.Given as goal

abbrev pub invariant-loop : goal.invariant-loop
invariant-loop l = l.marks.items ≡ replicate l.counter New
