-- The edges so far lead to nodes.
use Rattle.std.proofs.Common.{◌<◌, ℕ, length}
use Rattle.std.specs.Prelude.{All}
use Rattle.graph_walks.specs.Graph.{ends_of}
use Rattle.rule_rows.proofs.graphs.is_closed.Given as goal

abbrev pub invariant-loop-node : goal.invariant-loop-node
invariant-loop-node l = (x : ℕ) → x < l.node → All (λ end. end < length l.graph) (ends_of l.graph x)
