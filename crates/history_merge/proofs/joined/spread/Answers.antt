-- Pairs of the middle number stand side by side.
use Rattle.std.proofs.Common.{arith}
use Rattle.history_merge.proofs.JoinLaws.{any_pair, onto-all, onto-done, onto-start, onto-step}
use Rattle.history_merge.proofs.joined.spread.Goals as goal

pub loop-at-init : goal.loop-at-init
loop-at-init c = onto-start c.args.pairs.now c.args.from c.args.middle c.args.first c.args.out.now.items c.requires.before

pub returns-then-pairs-at : goal.returns-then-pairs-at
returns-then-pairs-at c =
    onto-done c.args.pairs.now c.args.from c.loop-at.at any_pair c.args.middle c.args.first c.args.out.now.items c.loop-at.out.items c.requires.order
    (let a = c.loop-at.auto.at in omega (arith, a)) (omega (arith, c.loop-at-test.true)) c.requires.here (λ e. let t = c.if-pairs-at.true in omega (arith, t, e)) c.loop-at.invariant

pub loop-at-preserved : goal.loop-at-preserved
loop-at-preserved c =
    onto-step c.args.pairs.now c.loop-at.at any_pair c.args.middle c.args.first c.args.out.now.items c.loop-at.out.items c.push.new.self.items
    (omega (arith, c.loop-at-test.true)) (let f = c.if-pairs-at.false in omega (arith, f)) c.loop-at.invariant c.in_ok-push.ensures.items

pub returns : goal.returns
returns c =
    onto-all c.args.pairs.now c.loop-at.at c.args.middle c.args.first c.args.out.now.items c.loop-at.out.items (omega (arith, c.loop-at-test.false)) c.loop-at.invariant
