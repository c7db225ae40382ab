-- The place only goes on, since the pairs ascend.
use Rattle.std.proofs.Common.{arith, slice_index_or}
use Rattle.history_merge.proofs.JoinLaws.{any_pair, before-higher, before-none, followed-all, followed-start, followed-step, rising-any}
use Rattle.history_merge.proofs.joined.follow.Goals as goal

pub skip-at-requires : goal.skip-at-requires
skip-at-requires c = record { within = c.loop-pair.invariant.within; before = c.loop-pair.invariant.before c.loop-pair.pair-index any_pair (omega arith) (omega (arith, c.loop-pair-test.true)) }

pub spread-requires : goal.spread-requires
spread-requires c = record { order = c.requires.seconds; within = c.skip-at.ensures.within; before = c.skip-at.ensures.before; here = c.skip-at.ensures.here }

pub loop-pair-init : goal.loop-pair-init
loop-pair-init c = record {
  added = followed-start c.args.seconds.now c.args.out.now.items;
  within = omega arith;
  before = λ j d le lt. before-none c.args.seconds.now (slice_index_or c.args.firsts.now j d).0.0;
}

pub loop-pair-preserved : goal.loop-pair-preserved
loop-pair-preserved c = record {
  added = followed-step c.args.firsts.now c.args.seconds.now c.loop-pair.pair-index any_pair c.args.out.now.items c.loop-pair.out.items c.spread.new.out.items
      (omega (arith, c.loop-pair-test.true)) c.loop-pair.invariant.added c.in_ok-spread.ensures;
  within = c.skip-at.ensures.within;
  before = λ j d le lt. before-higher c.args.seconds.now c.skip-at.result (slice_index_or c.args.firsts.now c.loop-pair.pair-index any_pair).0.0 (slice_index_or c.args.firsts.now j d).0.0
      (rising-any c.args.firsts.now c.requires.firsts c.loop-pair.pair-index j any_pair d (omega (arith, le)) lt) c.skip-at.ensures.before;
}

pub returns : goal.returns
returns c =
    followed-all c.args.firsts.now c.args.seconds.now c.loop-pair.pair-index c.args.out.now.items c.loop-pair.out.items (omega (arith, c.loop-pair-test.false)) c.loop-pair.invariant.added
