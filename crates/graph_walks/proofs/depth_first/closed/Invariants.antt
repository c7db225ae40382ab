-- What was gone through before the node was met, and the walk from it on.
use Rattle.std.proofs.Common.{take}
use Rattle.graph_walks.specs.Search.{path_of, IsClosing}
use Rattle.graph_walks.proofs.depth_first.closed.Given as goal

abbrev pub invariant-loop-f : goal.invariant-loop-f
invariant-loop-f l = IsClosing l.met l.walk.items (path_of (take l.f-index l.path)) l.end
