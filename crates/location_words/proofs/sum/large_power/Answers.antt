-- The innermost power past the limit is the first that is met.
use Rattle.std.proofs.Common.{pos, sym}
use Rattle.location_words.proofs.SumLemmas.{large-at, small-more, small-all}
use Rattle.location_words.proofs.sum.large_power.Goals as goal

pub returns-then-size-gt-MOST_POWER : goal.returns-then-size-gt-MOST_POWER
returns-then-size-gt-MOST_POWER c =
    sym (large-at c.args.sum.now c.loop-q.q-index (record { datum = 0; power = pos 0 }) c.unsigned_abs-size.result
    c.loop-q-test.true c.requires c.loop-q.invariant c.unsigned_abs-size.ensures.value c.if-size-gt-MOST_POWER.true)

pub loop-q-preserved : goal.loop-q-preserved
loop-q-preserved c =
    small-more c.args.sum.now c.loop-q.q-index (record { datum = 0; power = pos 0 }) c.unsigned_abs-size.result
    c.loop-q-test.true c.requires c.loop-q.invariant c.unsigned_abs-size.ensures.value c.if-size-gt-MOST_POWER.false

pub returns : goal.returns
returns c = sym (small-all c.args.sum.now c.loop-q.q-index c.loop-q-test.false c.loop-q.invariant)
