use Rattle.std.proofs.Common.{◌≢◌, sym, subst, ap, ◌∙◌, inl, inr}
use Rattle.brep_desk.specs.Shown.{closed, writing}
use Rattle.brep_desk.specs.Kept.{state_of, IsNotWriting}
use Rattle.brep_desk.specs.declared.channels.State.TheVariants.{Writing}
use Rattle.brep_desk.proofs.ChannelLists.{of_channel-past, state_in-at, IsNotWriting-at}
use Rattle.brep_desk.proofs.channels.written_name.Goals as goal

pub returns-then-i-channels-clause-none : goal.returns-then-i-channels-clause-none
returns-then-i-channels-clause-none c =
    subst IsNotWriting (sym (of_channel-past state_of closed _ _ c.if-i-channels.true)) tt

pub returns-in-Writing-clause-some : goal.returns-in-Writing-clause-some
returns-in-Writing-clause-some c =
    state_in-at _ _ _ Writing c.if-i-channels.false c.index-channels-i.is c.in-Writing.is
    ∙ ap writing (sym c.text.ensures)

pub returns-in-Closed : goal.returns-in-Closed
returns-in-Closed c =
    let other : c.index-channels-i.result.state ≢ Writing =
    λ e. elim c.in-Closed.is [ inl r ↦ absurd cc | inr w ↦ absurd cc ] in
    record { some = tt; none = IsNotWriting-at _ _ _ c.if-i-channels.false c.index-channels-i.is other }
