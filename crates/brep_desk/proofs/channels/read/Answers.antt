use Rattle.std.proofs.Common.{◌≡◌, ◌≢◌, ℕ, List, drop, sym, subst, ap, ◌∙◌, refl, inl, inr, get_or}
use Rattle.std.proofs.lemmas.List.{set-get_or}
use Rattle.brep_desk.specs.Shown.{closed}
use Rattle.brep_desk.specs.Kept.{left_in, state_of, of_channel, IsNotReading}
use Rattle.brep_desk.specs.declared.channels.State.TheVariants.{Reading}
use Rattle.brep_desk.proofs.ChannelLists.{of_channel-past, of_channel-set_kept, state_in-get}
use Rattle.brep_desk.proofs.ChannelLists.{left_in-get, left_in-read, IsNotReading-get}
use Rattle.brep_desk.proofs.channels.read.Goals as goal

pub returns-then-i-channels-clause-none : goal.returns-then-i-channels-clause-none
returns-then-i-channels-clause-none c =
    (refl, subst IsNotReading (sym (of_channel-past state_of closed _ _ c.if-i-channels.true)) tt)

pub returns-in-Reading-clause-reading : goal.returns-in-Reading-clause-reading
returns-in-Reading-clause-reading c = (_, state_in-get _ _ _ Reading c.if-i-channels.false c.in-Reading.is)

pub returns-in-Reading-clause-opened : goal.returns-in-Reading-clause-opened
returns-in-Reading-clause-opened c =
    of_channel-set_kept state_of closed _ _ _ (state_in-get _ _ _ _ c.if-i-channels.false refl)

pub returns-in-Reading-clause-count : goal.returns-in-Reading-clause-count
returns-in-Reading-clause-count c =
    let from : c.rest.result.now ≡ left_in c.args.channels.now c.args.number =
    c.rest.ensures ∙ ap (λ (x : List ℕ). drop (get_or c.args.channels.now c.args.number c.index-channels-i.result).at x)
    c.bytes.ensures ∙ sym (left_in-get _ _ _ c.if-i-channels.false) in
    rw (← from) c.copy_piece-count.ensures.count

pub returns-in-Reading-clause-left : goal.returns-in-Reading-clause-left
returns-in-Reading-clause-left c = left_in-read _ _ _ _ c.if-i-channels.false (left_in-get _ _ _ c.if-i-channels.false)

pub returns-in-Reading-clause-given : goal.returns-in-Reading-clause-given
returns-in-Reading-clause-given c =
    let from : c.rest.result.now ≡ left_in c.args.channels.now c.args.number =
    c.rest.ensures ∙ ap (λ (x : List ℕ). drop (get_or c.args.channels.now c.args.number c.index-channels-i.result).at x)
    c.bytes.ensures ∙ sym (left_in-get _ _ _ c.if-i-channels.false) in
    rw (← from) c.copy_piece-count.ensures.copied

pub returns-in-Closed : goal.returns-in-Closed
returns-in-Closed c =
    let other : (get_or c.args.channels.now c.args.number c.index-channels-i.result).state ≢ Reading =
    λ e. elim c.in-Closed.is [ inl r ↦ absurd cc | inr w ↦ absurd cc ] in
    record {
      none = (set-get_or _ _ _, IsNotReading-get _ _ _ c.if-i-channels.false other);
      reading = tt;
      opened = ap (of_channel state_of closed) (set-get_or _ _ _);
      count = tt;
      left = tt;
      given = tt;
    }
