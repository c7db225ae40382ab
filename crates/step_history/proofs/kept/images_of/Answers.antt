-- The pairs are gone through in order, and those kept are sorted.
use Rattle.std.proofs.Common.{arith}
use Rattle.step_history.specs.Gathering.{IsKept}
use Rattle.lists.proofs.Gathering.{gathers-all, gathers-none, gathers-out, gathers-step}
use Rattle.step_history.proofs.GatherLaws.{any_pair}
use Rattle.step_history.proofs.kept.images_of.Goals as goal

pub keep-requires : goal.keep-requires
keep-requires c = (c.requires c.loop-pair.pair-index any_pair (omega (arith, c.loop-pair-test.true))).0

pub loop-pair-init : goal.loop-pair-init
loop-pair-init c = gathers-none (IsKept c.args.pool.now c.args.input.now) c.new-kept.result.items c.new-kept.ensures.items

pub loop-pair-preserved : goal.loop-pair-preserved
loop-pair-preserved c =
    gathers-step (IsKept c.args.pool.now c.args.input.now) c.args.images.now c.loop-pair.pair-index any_pair c.loop-pair.kept.items c.keep.new.kept.items
    (omega (arith, c.loop-pair-test.true)) c.loop-pair.invariant c.in_ok-keep.ensures

pub returns : goal.returns
returns c = record {
  kept = gathers-out (IsKept c.args.pool.now c.args.input.now) c.args.images.now c.loop-pair.kept.items c.ascending_pairs.result
      (gathers-all (IsKept c.args.pool.now c.args.input.now) c.args.images.now c.loop-pair.pair-index c.loop-pair.kept.items (omega (arith, c.loop-pair-test.false)) c.loop-pair.invariant)
      c.ascending_pairs.ensures.same;
  order = c.ascending_pairs.ensures.order;
}
