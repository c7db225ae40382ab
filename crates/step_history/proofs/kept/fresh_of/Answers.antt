-- The pairs are gone through in order.
use Rattle.std.proofs.Common.{arith}
use Rattle.step_history.specs.Gathering.{IsFresh}
use Rattle.lists.proofs.Gathering.{gathers-all, gathers-none, gathers-step}
use Rattle.step_history.proofs.GatherLaws.{any_pair}
use Rattle.step_history.proofs.kept.fresh_of.Goals as goal

pub loop-pair-init : goal.loop-pair-init
loop-pair-init c = gathers-none (IsFresh c.args.input.now) c.new-fresh.result c.new-fresh.ensures

pub loop-pair-preserved : goal.loop-pair-preserved
loop-pair-preserved c =
    gathers-step (IsFresh c.args.input.now) c.args.images.now c.loop-pair.pair-index any_pair c.loop-pair.fresh c.freshen.new.fresh
    (omega (arith, c.loop-pair-test.true)) c.loop-pair.invariant c.in_ok-freshen.ensures

pub returns : goal.returns
returns c = gathers-all (IsFresh c.args.input.now) c.args.images.now c.loop-pair.pair-index c.loop-pair.fresh (omega (arith, c.loop-pair-test.false)) c.loop-pair.invariant
