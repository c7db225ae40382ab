-- What stands where the two words meet.
use Rattle.std.proofs.Common.{◌∙◌, ◌-◌, pos, sym, arith, length, slice_index_or}
use Rattle.location_words.specs.declared.pair.Pair.{Pair}
use Rattle.location_words.specs.Pairs.{pair}
use Rattle.location_words.proofs.SeamLemmas.{seam-joined, seam-apart, seam-at-end, kept-sum}
use Rattle.location_words.proofs.products.seam_of.Goals as goal
use Rattle.location_words.proofs.products.seam_of.Goals.{else-kept-gt0-via-then-kept-gt0+else-gone-outer}
use Rattle.location_words.proofs.products.seam_of.Goals.{else-kept-gt0-via-else-kept-gt0}

pub returns-then-last-next-clause-whole : goal.returns-then-last-next-clause-whole
returns-then-last-next-clause-whole c =
    let d : Pair = pair 0 (pos 0) in
    let gone = c.cancelled-gone.result in
    let kept = length c.args.inner.now - c.cancelled-gone.result in
    let small =
    kept-sum (slice_index_or c.args.inner.now (length c.args.inner.now - c.cancelled-gone.result - 1) d).power
    (slice_index_or c.args.outer.now c.cancelled-gone.result d).power
    (c.requires.inner.small (length c.args.inner.now - c.cancelled-gone.result - 1) d
    (omega (arith, c.if-kept-gt0.true))) (c.requires.outer.small c.cancelled-gone.result d c.if-gone-outer.true) in
    seam-joined c.args.inner.now c.args.outer.now (length c.args.inner.now - c.cancelled-gone.result)
    c.cancelled-gone.result d _ c.requires.inner.is_word c.requires.outer.is_word
    c.if-kept-gt0.true (omega arith) c.if-gone-outer.true c.if-last-next.true small
    (λ z. c.cancelled-gone.ensures.stops d (omega (arith, c.if-kept-gt0.true)) c.if-gone-outer.true c.if-last-next.true
    (sym small ∙ z))
    c.cancelled-gone.ensures.same

pub returns-else-last-next-clause-whole : goal.returns-else-last-next-clause-whole
returns-else-last-next-clause-whole c =
    seam-apart c.args.inner.now c.args.outer.now (length c.args.inner.now - c.cancelled-gone.result)
    c.cancelled-gone.result (pair 0 (pos 0)) c.requires.inner.is_word c.requires.outer.is_word
    c.if-kept-gt0.true (omega arith) c.if-gone-outer.true c.if-last-next.false c.cancelled-gone.ensures.same

pub returns-else-kept-gt0-clause-whole : goal.returns-else-kept-gt0-clause-whole
returns-else-kept-gt0-clause-whole c =
    seam-at-end c.args.inner.now c.args.outer.now (length c.args.inner.now - c.cancelled-gone.result)
    c.cancelled-gone.result c.requires.inner.is_word c.requires.outer.is_word
    (λ a b.
    elim c.else-kept-gt0.branch [
      | else-kept-gt0-via-then-kept-gt0+else-gone-outer w ↦
          omega (arith, b, w.if-gone-outer.false)
      | else-kept-gt0-via-else-kept-gt0 w ↦
          omega (arith, a, w.if-kept-gt0.false)
    ])
    c.cancelled-gone.ensures.same
