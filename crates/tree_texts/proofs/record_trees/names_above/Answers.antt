-- All records name records above them.
use Rattle.std.proofs.Common.{arith}
use Rattle.tree_texts.proofs.RecordLemmas.{names-told}
use Rattle.tree_texts.proofs.record_trees.names_above.Goals as goal

pub returns : goal.returns
returns c =
    let past = c.loop-i-test.false in
    λ _. names-told c.args.records.now (λ j d lt. c.loop-i.invariant j d (omega (arith, lt, past)))
