-- One member more.
use Rattle.std.proofs.Common.{◌∙◌, refl}
use Rattle.orientation.specs.declared.turn.Turn.TheVariants.{Forward}
use Rattle.sewing.specs.Asked.{asked_of}
use Rattle.sewing.specs.Refused.{HasItsKind}
use Rattle.sewing.proofs.MemberLemmas.{member-step}
use Rattle.sewing.proofs.merged.merge.Goals as goal

pub loop-place-preserved : goal.loop-place-preserved
loop-place-preserved c =
    member-step (asked_of c.args.first Forward) (HasItsKind c.args.pool.now c.args.first) c.args.members.now
    c.loop-place.place _ c.loop-place-test.true c.loop-place.asked c.ask.new.asked c.loop-place.invariant
    c.in-Ok.ensures
    (c.if-not-is_of.ensures.0 refl ∙ c.kind-kind.ensures)
