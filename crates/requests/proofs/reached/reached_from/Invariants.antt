-- What was met so far, and the nodes of the first places.
use Rattle.std.proofs.Common.{◌≡◌, ◌-◌, length}
use Rattle.requests.specs.Reached.{IsGoneThrough}
use Rattle.requests.proofs.reached.reached_from.Given as goal

abbrev pub invariant-loop-next : goal.invariant-loop-next
invariant-loop-next l = record {
  gone : IsGoneThrough l.pool l.table l.fn.root.0 l.nodes.keys l.graph;
  count : length l.graph ≡ l.next;
}

abbrev pub decreases-loop-next : goal.decreases-loop-next
decreases-loop-next l = length l.pool - l.next
