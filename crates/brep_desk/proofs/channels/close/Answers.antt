use Rattle.std.proofs.Common.{◌≢◌, [], refl, sym, ◌∙◌, inl, inr, get_or}
use Rattle.brep_desk.specs.Shown.{closed}
use Rattle.brep_desk.specs.Kept.{left_of, state_of}
use Rattle.brep_desk.specs.declared.channels.State.TheVariants.{Closed}
use Rattle.brep_desk.proofs.ChannelLists.{of_channel-past, of_channel-set, of_channel-set_kept}
use Rattle.brep_desk.proofs.ChannelLists.{state_in-get, left_in-get, state_over-open}
use Rattle.brep_desk.proofs.channels.close.Goals as goal

pub returns-then-i-channels-clause-was_open : goal.returns-then-i-channels-clause-was_open
returns-then-i-channels-clause-was_open c =
    (λ no _. absurd cc, λ is_open. absurd (is_open (of_channel-past state_of closed _ _ c.if-i-channels.true)))

pub returns-in-Closed-clause-was_open : goal.returns-in-Closed-clause-was_open
returns-in-Closed-clause-was_open c =
    (λ no _. absurd cc, λ is_open. absurd (is_open (state_in-get _ _ _ Closed c.if-i-channels.false c.in-Closed.is)))

pub returns-in-Reading : goal.returns-in-Reading
returns-in-Reading c =
    let other : (get_or c.args.channels.now c.args.number c.index-channels-i.result).state ≢ Closed =
    λ e. elim c.in-Reading.is [ inl r ↦ absurd cc | inr w ↦ absurd cc ] in
    record {
      was_open =
          (λ _ e. state_over-open _ _ other (sym (state_in-get _ _ _ _ c.if-i-channels.false refl) ∙ e), λ _. refl);
      unchanged = tt;
      opened = of_channel-set state_of closed _ _ _ c.if-i-channels.false;
      left = of_channel-set_kept left_of [] _ _ _ (left_in-get _ _ _ c.if-i-channels.false);
    }
