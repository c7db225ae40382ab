-- One more factor is taken.
use Rattle.std.proofs.Common.{◌≡◌, ◌≤◌, ◌+◌, ◌-◌, ◌*◌, ◌^◌, length, ap, sym, ◌∙◌, arith, true≢false}
use Rattle.std.specs.Prelude.{nat_abs}
use Rattle.std.specs.List.{fold}
use Rattle.std.proofs.lemmas.List.Elements.{All-weaker}
use Rattle.location_words.specs.declared.pair.Pair.{Pair}
use Rattle.location_words.specs.declared.sum.Wide.{Wide}
use Rattle.location_words.specs.Pairs.{taken_onto, AllSmall}
use Rattle.location_words.specs.Sums.{from_last}
use Rattle.location_words.proofs.ProductLemmas.{product-more, sum-more, sum-part}
use Rattle.location_words.proofs.products.summed.Goals as goal

pub loop-i-preserved : goal.loop-i-preserved
loop-i-preserved c =
    let word : c.as_slice.result.now ≡ c.index-factors-factors.result.now = c.as_slice.ensures ∙ c.factor.view_is in
    let few : length c.as_slice.result.now ≤ 4096 = rw c.as_slice.ensures c.factor.invariant.few in
    let small : AllSmall c.as_slice.result.now = rw c.as_slice.ensures c.factor.invariant.small in
    record {
      made =
          product-more (λ w. w.now) c.args.factors.now c.loop-i.i c.index-factors-factors.result
          c.index-factors-factors.result c.loop-i.sum.items c.take_all.new.so_far.items
          c.loop-i-test.true c.index-factors-factors.is c.loop-i.invariant.made
          (c.in_ok-take_all.ensures.ok ∙ ap (fold taken_onto (from_last c.loop-i.sum.items)) word);
      long =
          let more = sum-more (λ w. length w.now) c.args.factors.now c.loop-i.i c.index-factors-factors.result
          c.index-factors-factors.result c.loop-i-test.true c.index-factors-factors.is in
          omega (arith, c.in_ok-take_all.ensures.len, c.loop-i.invariant.long, more, ap (length {A = Pair}) word);
      room = omega (arith, c.in_ok-take_all.ensures.capacity, c.loop-i.invariant.room);
      fits =
          All-weaker (λ (q : Wide). nat_abs q.power ≤ c.loop-i.i * 2 ^ 52 + length c.as_slice.result.now * 2 ^ 40)
          (λ (q : Wide). nat_abs q.power ≤ (c.loop-i.i + 1) * 2 ^ 52) (λ q h. omega arith) c.take_all.new.so_far.items
          (c.in_ok-take_all.ensures.grows (c.loop-i.i * 2 ^ 52) (2 ^ 40) c.loop-i.invariant.fits small);
    }

pub returns-in_err-take_all-clause-inline : goal.returns-in_err-take_all-clause-inline
returns-in_err-take_all-clause-inline c = λ few.
    let word : c.as_slice.result.now ≡ c.index-factors-factors.result.now = c.as_slice.ensures ∙ c.factor.view_is in
    let more = sum-more (λ w. length w.now) c.args.factors.now c.loop-i.i c.index-factors-factors.result
    c.index-factors-factors.result c.loop-i-test.true c.index-factors-factors.is in
    let part = sum-part (λ w. length w.now) c.args.factors.now (length c.args.factors.now - (c.loop-i.i + 1)) in
    let room : length c.loop-i.sum.items + length c.as_slice.result.now ≤ c.loop-i.sum.capacity =
    omega (arith, few, more, part, c.loop-i.invariant.long, c.loop-i.invariant.room, ap (length {A = Pair}) word) in
    absurd (true≢false (sym (c.in_err-take_all.ensures.room room)))
