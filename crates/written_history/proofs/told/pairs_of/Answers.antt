-- Each pair is gone through, and what was added is sorted.
use Rattle.std.proofs.Common.{arith}
use Rattle.lists.proofs.Gathering.{gathers-all, gathers-none, gathers-out, gathers-step}
use Rattle.written_history.specs.Numbered.{IsPairOf}
use Rattle.written_history.proofs.NumberLaws.{any_pair, are-pairs, none-small, sorted-small}
use Rattle.written_history.proofs.told.pairs_of.Goals as goal

pub add_pair-requires-clause-held : goal.add_pair-requires-clause-held
add_pair-requires-clause-held c =
    (c.requires.held c.loop-pair.pair-index any_pair (omega (arith, c.loop-pair-test.true))).0

pub loop-pair-init : goal.loop-pair-init
loop-pair-init c = (
  gathers-none (IsPairOf c.args.pool.now c.args.order.now.numbers) c.new-pairs.result.items c.new-pairs.ensures.items,
  none-small c.new-pairs.result.items c.new-pairs.ensures.items,
)

pub loop-pair-preserved : goal.loop-pair-preserved
loop-pair-preserved c = (
  gathers-step (IsPairOf c.args.pool.now c.args.order.now.numbers) c.args.generated.now c.loop-pair.pair-index any_pair
      c.loop-pair.pairs.items c.add_pair.new.pairs.items (omega (arith, c.loop-pair-test.true)) c.loop-pair.invariant.0
      c.in_ok-add_pair.ensures.adds,
  c.in_ok-add_pair.ensures.small c.loop-pair.invariant.1,
)

pub returns-clause-are : goal.returns-clause-are
returns-clause-are c =
    gathers-out (IsPairOf c.args.pool.now c.args.order.now.numbers) c.args.generated.now c.loop-pair.pairs.items
    c.ascending_pairs.result
    (gathers-all (IsPairOf c.args.pool.now c.args.order.now.numbers) c.args.generated.now c.loop-pair.pair-index
    c.loop-pair.pairs.items (omega (arith, c.loop-pair-test.false)) c.loop-pair.invariant.0)
    c.ascending_pairs.ensures.same

pub returns-clause-pairs : goal.returns-clause-pairs
returns-clause-pairs c =
    let all = gathers-all (IsPairOf c.args.pool.now c.args.order.now.numbers) c.args.generated.now
    c.loop-pair.pair-index c.loop-pair.pairs.items (omega (arith, c.loop-pair-test.false))
    c.loop-pair.invariant.0 in
    are-pairs c.args.order.now.numbers c.ascending_pairs.result
    (λ y contains.
    let from = (all y).0 ((c.ascending_pairs.ensures.same y).0 contains) in (from.0.1.0, from.2.1))
    (sorted-small c.loop-pair.pairs.items c.ascending_pairs.result c.ascending_pairs.ensures.same c.loop-pair.invariant.1)
    c.ascending_pairs.ensures.order c.ascending_pairs.ensures.short
