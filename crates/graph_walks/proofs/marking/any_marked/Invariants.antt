-- None so far is marked.
use Rattle.std.proofs.Common.{◌≡◌, take}
use Rattle.std.specs.Prelude.{false}
use Rattle.std.specs.List.{list_any}
use Rattle.graph_walks.specs.Marks.{is_marked}
use Rattle.graph_walks.proofs.marking.any_marked.Given as goal

abbrev pub invariant-loop-y : goal.invariant-loop-y
invariant-loop-y l = list_any (is_marked l.marks) (take l.y-index l.nodes) ≡ false
