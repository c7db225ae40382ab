-- The numbers are gone through in order.
use Rattle.std.proofs.Common.{arith}
use Rattle.step_history.proofs.MadeLaws.{picked-all, picked-none, picked-step}
use Rattle.step_history.proofs.made.pick.Goals as goal

pub pick_one-requires : goal.pick_one-requires
pick_one-requires c = record { from = c.requires.from; id = c.requires.ids c.loop-id.id-index 0 (omega (arith, c.loop-id-test.true)) }

pub loop-id-init : goal.loop-id-init
loop-id-init c = picked-none c.args.pool.now c.args.fresh.now c.args.from c.args.out.now.items

pub loop-id-preserved : goal.loop-id-preserved
loop-id-preserved c =
    picked-step c.args.pool.now c.args.fresh.now c.args.from c.args.ids.now c.loop-id.id-index c.args.out.now.items c.loop-id.out.items c.pick_one.new.out.items
    (omega (arith, c.loop-id-test.true)) c.loop-id.invariant c.in_ok-pick_one.ensures

pub returns : goal.returns
returns c =
    picked-all c.args.pool.now c.args.fresh.now c.args.from c.args.ids.now c.loop-id.id-index c.args.out.now.items c.loop-id.out.items
    (omega (arith, c.loop-id-test.false)) c.loop-id.invariant
