-- Watchers that are told an event one after another.
use Rattle.std.proofs.Common.{◌≡◌, ◌<◌, ◌+◌, ℕ, zero, suc, List, [], ◌∷◌, length, map, ap, subst, refl, arith}
use Rattle.std.proofs.Common.{slice_set}
use Rattle.std.specs.Prelude.{get_or}
use Rattle.watchers.specs.declared.event.Event.{Event}
use Rattle.watchers.specs.Told.{Told, IsTold}
use Rattle.watchers.specs.TellsAll.{AreTold}

module _ {S : Type 0} (seen : S → Told) (e : Event) where
  -- the first so many are told the event, and the others are as before
  abbrev pub ToldUpTo : ℕ → List S → List S → Type 0
  ToldUpTo zero old new = new ≡ old
  ToldUpTo (suc i) (a ∷ old) (b ∷ new) = IsTold e (seen a) (seen b) × ToldUpTo i old new
  ToldUpTo (suc i) old new = ⊥

  -- one more, who stands at the next place, is told it
  told-next : (i : ℕ) (old new : List S) (x b : S) → ToldUpTo i old new → i < length new → x ≡ get_or new i x →
      IsTold e (seen x) (seen b) → ToldUpTo (suc i) old (slice_set new i b)
  told-next zero old [] x b h lt at t = absurd (omega (arith, lt))
  told-next zero old (a ∷ new) x b h lt at t =
      subst (λ l. ToldUpTo (suc zero) l (b ∷ new)) h (subst (λ y. IsTold e (seen y) (seen b)) at t, refl)
  told-next (suc i) (a ∷ old) (c ∷ new) x b h lt at t = (h.0, told-next i old new x b h.1 (omega (arith, lt)) at t)
  told-next (suc i) [] new x b h lt at t = absurd h
  told-next (suc i) (a ∷ old) [] x b h lt at t = absurd h

  pub told-on : (i : ℕ) (old new : List S) (x b : S) → ToldUpTo i old new → i < length new → x ≡ get_or new i x →
      IsTold e (seen x) (seen b) → ToldUpTo (i + 1) old (slice_set new i b)
  told-on i old new x b h lt at t =
      let one : suc i ≡ i + 1 = omega (arith) in
      subst (λ k. ToldUpTo k old (slice_set new i b)) one (told-next i old new x b h lt at t)

  -- all are
  pub all-told : (old new : List S) → ToldUpTo (length old) old new → AreTold e (map seen old) (map seen new)
  all-told [] [] h = tt
  all-told [] (b ∷ new) h = let long = ap length h in absurd (omega (arith, long))
  all-told (a ∷ old) (b ∷ new) h = (h.0, all-told old new h.1)
  all-told (a ∷ old) [] h = absurd h
