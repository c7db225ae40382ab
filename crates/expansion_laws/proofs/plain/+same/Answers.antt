-- What is left tells whether the whole is one.
use Rattle.std.proofs.Common.{refl, sym, ◌∙◌, arith}
use Rattle.expansion_laws.proofs.PlainLemmas.{uneven, next-same, next-other, none-left}
use Rattle.expansion_laws.proofs.plain.+same.Goals as goal

pub same_uses-returns-then-a-b : goal.same_uses-returns-then-a-b
same_uses-returns-then-a-b t c = uneven c.args.a.now c.args.b.now c.if-a-b.true

pub same_uses-loop-i-init : goal.same_uses-loop-i-init
same_uses-loop-i-init t c = refl

pub same_uses-returns-then-not-same_use : goal.same_uses-returns-then-not-same_use
same_uses-returns-then-not-same_use t c =
    next-other c.args.a.now c.args.b.now c.loop-i.i c.index-a-i.result c.index-b-i.result c.loop-i-test.true
    c.if-a-b.false c.index-a-i.is c.index-b-i.is
    (sym c.if-not-same_use.true ∙ c.same_use.ensures)
    ∙ sym c.loop-i.invariant

pub same_uses-loop-i-preserved : goal.same_uses-loop-i-preserved
same_uses-loop-i-preserved t c =
    c.loop-i.invariant
    ∙ next-same c.args.a.now c.args.b.now c.loop-i.i c.index-a-i.result c.index-b-i.result c.loop-i-test.true
    c.if-a-b.false c.index-a-i.is c.index-b-i.is
    (sym c.if-not-same_use.false ∙ c.same_use.ensures)

pub same_uses-returns : goal.same_uses-returns
same_uses-returns t c =
    none-left c.args.a.now c.args.b.now c.loop-i.i (omega (arith, c.loop-i-test.false)) c.if-a-b.false ∙
    sym c.loop-i.invariant
