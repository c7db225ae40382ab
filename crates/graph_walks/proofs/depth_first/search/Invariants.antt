-- The marks, the order and the path are those of a search.
use Rattle.std.proofs.Common.{◌+◌, reverse}
use Rattle.graph_walks.specs.Search.{IsSearch, new_work, frames_work}
use Rattle.graph_walks.proofs.depth_first.search.Given as goal

abbrev pub invariant-loop-top : goal.invariant-loop-top
invariant-loop-top l = IsSearch l.graph l.root l.marks.items (reverse l.order.items) (reverse l.path.items)

abbrev pub decreases-loop-top : goal.decreases-loop-top
decreases-loop-top l = new_work l.marks.items l.graph + frames_work l.graph (reverse l.path.items)
