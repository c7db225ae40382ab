-- The ends so far are added.
use Rattle.std.proofs.Common.{take, length}
use Rattle.requests.specs.Reached.{HasOneMore}
use Rattle.requests.proofs.reached.add_node.Given as goal

abbrev pub invariant-loop-end : goal.invariant-loop-end
invariant-loop-end l = HasOneMore (length l.pool) (take l.end-index l.ends) l.fn.nodes.keys l.fn.graph l.nodes.keys l.graph
