-- Each first is noted.
use Rattle.std.proofs.Common.{refl, arith, slice_index_or}
use Rattle.step_history.specs.Gathering.{IsFirst}
use Rattle.lists.proofs.Gathering.{gathers-all, gathers-none, gathers-step}
use Rattle.step_history.proofs.GatherLaws.{adds-noted, any_pair}
use Rattle.step_history.proofs.kept.firsts_of.Goals as goal

pub loop-pair-init : goal.loop-pair-init
loop-pair-init c = gathers-none IsFirst c.new-firsts.result c.new-firsts.ensures

pub loop-pair-preserved : goal.loop-pair-preserved
loop-pair-preserved c =
    let pair = slice_index_or c.args.pairs.now c.loop-pair.pair-index any_pair in
    gathers-step IsFirst c.args.pairs.now c.loop-pair.pair-index any_pair c.loop-pair.firsts c.note.new.self
    (omega (arith, c.loop-pair-test.true)) c.loop-pair.invariant
    (adds-noted (IsFirst pair) c.loop-pair.firsts c.note.new.self pair.0.0 c.in_ok-note.ensures refl (λ y q. q))

pub returns : goal.returns
returns c = gathers-all IsFirst c.args.pairs.now c.loop-pair.pair-index c.loop-pair.firsts (omega (arith, c.loop-pair-test.false)) c.loop-pair.invariant
