-- One more is below.
use Rattle.std.proofs.Common.{◌<◌, subst, arith}
use Rattle.std.specs.Prelude.{All}
use Rattle.std.proofs.lemmas.List.{take_all}
use Rattle.std.proofs.lemmas.List.Elements.{All-more}
use Rattle.rule_rows.proofs.graphs.all_below.Goals as goal

pub loop-end-preserved : goal.loop-end-preserved
loop-end-preserved c =
    let over = c.if-end-count.false in
    All-more (λ x. x < c.args.count) c.args.ends.now c.loop-end.end-index 0 c.loop-end-test.true c.loop-end.invariant
    (omega (arith, over))

pub returns : goal.returns
returns c =
    let past = c.loop-end-test.false in
    λ _. subst (All (λ x. x < c.args.count)) (take_all c.loop-end.end-index c.args.ends.now (omega (arith, past)))
    c.loop-end.invariant
