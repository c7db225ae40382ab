-- One pair more.
use Rattle.std.proofs.Common.{arith}
use Rattle.step_history.proofs.GatherLaws.{any_pair}
use Rattle.script_requests.specs.Named.{IsImageOfNumber, IsRelated, IsSecond}
use Rattle.script_requests.proofs.MeetLaws.{meets-all, meets-as, meets-step, seconds-are}
use Rattle.script_requests.proofs.naming.meet_images.Goals as goal

pub loop-pair-preserved : goal.loop-pair-preserved
loop-pair-preserved c =
    meets-step IsSecond c.pairs_of-own.result.now c.loop-pair.pair-index any_pair c.args.met.now c.loop-pair.met
    c.meet.new.met (omega (arith, c.loop-pair-test.true)) c.loop-pair.invariant c.in_ok-meet.ensures

pub returns : goal.returns
returns c =
    let own = c.pairs_of-own.result.now in
    meets-as (IsRelated IsSecond own) (IsImageOfNumber c.args.pairs.now c.args.id) c.args.met.now c.loop-pair.met
    (seconds-are c.args.pairs.now own c.args.id c.pairs_of-own.ensures)
    (meets-all IsSecond own c.loop-pair.pair-index c.args.met.now c.loop-pair.met
    (omega (arith, c.loop-pair-test.false)) c.loop-pair.invariant)
