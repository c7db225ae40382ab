-- One member more.
use Rattle.std.proofs.Common.{refl}
use Rattle.sewing.specs.declared.member.Member.{Member}
use Rattle.sewing.specs.Asked.{asked_of}
use Rattle.sewing.specs.Refused.{CanBeSewn}
use Rattle.sewing.proofs.MemberLemmas.{member-step}
use Rattle.sewing.proofs.sewn.sew_to.Goals as goal

pub loop-place-preserved : goal.loop-place-preserved
loop-place-preserved c =
    member-step (λ (m : Member). asked_of c.args.first m.turn m.id) (CanBeSewn c.args.pool.now c.args.first)
    c.args.members.now c.loop-place.place _ c.loop-place-test.true c.loop-place.asked c.ask.new.asked
    c.loop-place.invariant c.in-Ok-ask.ensures
    (record { edge = c.if-not-is_of.ensures.0 refl; ends = c.in-Ok.ensures.0 c.if-not-same.false })
