-- One number more.
use Rattle.std.proofs.Common.{arith, []}
use Rattle.script_requests.specs.Named.{IsImageOfNumber}
use Rattle.script_requests.proofs.MeetLaws.{meets-all, meets-step}
use Rattle.script_requests.proofs.naming.images_of.Goals as goal

pub loop-id-preserved : goal.loop-id-preserved
loop-id-preserved c =
    meets-step (IsImageOfNumber c.args.pairs.now) c.args.ids.now c.loop-id.id-index 0 [] c.loop-id.met
    c.meet_images.new.met (omega (arith, c.loop-id-test.true)) c.loop-id.invariant c.in_ok-meet_images.ensures

pub returns : goal.returns
returns c =
    meets-all (IsImageOfNumber c.args.pairs.now) c.args.ids.now c.loop-id.id-index [] c.loop-id.met
    (omega (arith, c.loop-id-test.false)) c.loop-id.invariant
