-- One more pair of each cancels.
use Rattle.std.proofs.Common.{pos, arith, ◌<◌, ◌-◌, length, slice_index_or}
use Rattle.location_words.specs.Pairs.{pair}
use Rattle.location_words.proofs.SeamLemmas.{cancel-more, zero-sum}
use Rattle.location_words.proofs.products.cancelled.Goals as goal

pub returns-then-last-next-clause-same : goal.returns-then-last-next-clause-same
returns-then-last-next-clause-same c = c.loop-gone.invariant

pub loop-gone-preserved : goal.loop-gone-preserved
loop-gone-preserved c =
    let of_inner : c.loop-gone.gone < length c.args.inner.now =
    omega (arith, c.loop-gone-test.true, c.min-most.ensures) in
    let of_outer : c.loop-gone.gone < length c.args.outer.now =
    omega (arith, c.loop-gone-test.true, c.min-most.ensures) in
    cancel-more c.args.inner.now c.args.outer.now c.loop-gone.gone (pair 0 (pos 0)) of_inner of_outer
    c.if-last-next.false
    (zero-sum (slice_index_or c.args.inner.now (length c.args.inner.now - c.loop-gone.gone - 1) (pair 0 (pos 0))).power
    (slice_index_or c.args.outer.now c.loop-gone.gone (pair 0 (pos 0))).power
    (c.requires.inner.small (length c.args.inner.now - c.loop-gone.gone - 1) (pair 0 (pos 0)) (omega arith))
    (c.requires.outer.small c.loop-gone.gone (pair 0 (pos 0)) of_outer) c.if-last-next-ne0.false)
    c.loop-gone.invariant
