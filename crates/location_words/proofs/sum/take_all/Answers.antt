-- One more pair is taken.
use Rattle.std.proofs.Common.{◌≡◌, ◌≤◌, ◌+◌, ◌*◌, ◌^◌, length, All, ap, sym, ◌∙◌, arith, subst, slice_index_or, pos}
use Rattle.std.specs.Prelude.{nat_abs}
use Rattle.std.proofs.lemmas.List.Elements.{All-weaker}
use Rattle.location_words.specs.declared.sum.Wide.{Wide}
use Rattle.location_words.specs.declared.pair.Pair.{Pair}
use Rattle.location_words.specs.Pairs.{pair, taken_onto}
use Rattle.location_words.specs.Sums.{from_last}
use Rattle.location_words.proofs.SumLemmas.{fold-more}
use Rattle.location_words.proofs.sum.take_all.Goals as goal

pub loop-p-preserved : goal.loop-p-preserved
loop-p-preserved c =
    let i = c.loop-p.p-index in
    let p : Pair = slice_index_or c.args.pairs.now i (pair 0 (pos 0)) in
    record {
      taken = c.in_ok-take_onto.ensures.ok ∙ ap (λ l. taken_onto l p) c.loop-p.invariant.taken ∙
          sym (fold-more (from_last c.args.so_far.now.items) c.args.pairs.now i (pair 0 (pos 0)) c.loop-p-test.true);
      long = omega (arith, c.in_ok-take_onto.ensures.len, c.loop-p.invariant.long);
      room = omega (arith, c.in_ok-take_onto.ensures.capacity, c.loop-p.invariant.room);
      fits = let b : nat_abs p.power ≤ 2 ^ 63 = c.take_onto.ensures.size in
          All-weaker (λ (w : Wide). nat_abs w.power ≤ 2 ^ 125 + i * 2 ^ 63 + nat_abs p.power)
          (λ (w : Wide). nat_abs w.power ≤ 2 ^ 125 + (i + 1) * 2 ^ 63) (λ w h. omega arith)
          c.take_onto.new.so_far.items
          (c.in_ok-take_onto.ensures.grows (2 ^ 125 + i * 2 ^ 63) c.loop-p.invariant.fits);
      grows = λ n m h k. let b : nat_abs p.power ≤ m = k i (pair 0 (pos 0)) c.loop-p-test.true in
          All-weaker (λ (w : Wide). nat_abs w.power ≤ n + i * m + nat_abs p.power)
          (λ (w : Wide). nat_abs w.power ≤ n + (i + 1) * m) (λ w g. omega arith) c.take_onto.new.so_far.items
          (c.in_ok-take_onto.ensures.grows (n + i * m) (c.loop-p.invariant.grows n m h k));
    }

pub returns-clause-grows : goal.returns-clause-grows
returns-clause-grows c = λ n m h k.
    let same : c.loop-p.p-index ≡ length c.args.pairs.now =
    omega (arith, c.loop-p.auto.p-index-end, c.loop-p-test.false) in
    subst (λ i. All (λ (w : Wide). nat_abs w.power ≤ n + i * m) c.loop-p.so_far.items) same
    (c.loop-p.invariant.grows n m h k)
