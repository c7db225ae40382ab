-- All edges lead to nodes.
use Rattle.std.proofs.Common.{◌<◌, length, arith}
use Rattle.rule_rows.proofs.GraphLemmas.{all-ends}
use Rattle.rule_rows.proofs.graphs.is_closed.Goals as goal

pub returns : goal.returns
returns c =
    let past = c.loop-node-test.false in
    λ _. all-ends (λ end. end < length c.args.graph.now) c.args.graph.now
    (λ x lt. c.loop-node.invariant x (omega (arith, lt, past)))
