-- One more pair, and the limits of the inverse.
use Rattle.std.proofs.Common.{◌≡◌, arith, ap, ◌∙◌, pos}
use Rattle.location_words.specs.Pairs.{pair, inverse as inverse_of}
use Rattle.location_words.proofs.InverseLemmas.{inverse-more, inverse-all, IsHeldWord-inverse}
use Rattle.location_words.proofs.word.inverse.Goals as goal

pub loop-i-preserved : goal.loop-i-preserved
loop-i-preserved c = record {
  turned =
      inverse-more c.as_slice-items.result.now c.loop-i.pairs.items c.push.new.self.items c.loop-i.i (pair 0 (pos 0))
      c.loop-i-test.true
      (rw c.as_slice-items.ensures c.w.invariant.small) c.in_ok-push.ensures.ok c.loop-i.invariant.turned;
  room = omega (arith, c.in_ok-push.ensures.capacity);
}

pub invariant_of-result : goal.invariant_of-result
invariant_of-result c =
    let t : c.loop-i.pairs.items ≡ inverse_of c.w.inside.pairs.items =
    c.loop-i.invariant.turned ∙ inverse-all c.as_slice-items.result.now c.loop-i.i c.loop-i-test.false ∙
    ap inverse_of c.as_slice-items.ensures in
    rw t (IsHeldWord-inverse c.w.inside.pairs.items c.w.invariant)
