-- One more names a record above.
use Rattle.std.proofs.Common.{subst, arith}
use Rattle.std.specs.Prelude.{All}
use Rattle.std.proofs.lemmas.List.{take_all}
use Rattle.std.proofs.lemmas.List.Elements.{All-more}
use Rattle.tree_texts.proofs.RecordLemmas.{IsAboveOwn}
use Rattle.tree_texts.proofs.record_trees.all_above.Goals as goal

pub loop-one-preserved : goal.loop-one-preserved
loop-one-preserved c =
    All-more (IsAboveOwn c.args.count c.args.own) c.args.uses.now c.loop-one.one-index c.one-item.result
    c.loop-one-test.true c.loop-one.invariant
    (subst (IsAboveOwn c.args.count c.args.own) c.one-item.is (c.if-number-own.false, c.if-number-count.false))

pub returns : goal.returns
returns c =
    let past = c.loop-one-test.false in
    λ _. subst (All (IsAboveOwn c.args.count c.args.own))
    (take_all c.loop-one.one-index c.args.uses.now (omega (arith, past))) c.loop-one.invariant
