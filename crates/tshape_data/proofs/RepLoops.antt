-- Rooms for representations, and the loop over them.
use Rattle.std.proofs.Common.{◌≡◌, ℕ, zero, suc, ◌-◌, ◌<◌, List, [], ◌∷◌, ◌++◌, Option, Some, None, Ok, Err, refl}
use Rattle.std.proofs.Common.{arith}
use Rattle.brep_tokens.specs.declared.text.Token.{Token}
use Rattle.brep_tokens.specs.declared.fault.ReadCode.TheVariants as faults
use Rattle.lists.specs.Results.{◌>>=◌}
use Rattle.entry_readers.specs.Reading.{Read, fault, at_token}
use Rattle.tshape_data.specs.RepReading.{most_reps, reps_from, with_room}
use Rattle.tshape_data.specs.RepsLeft.{then_reps}

pub room_open : {F : Type 0} → (room : ℕ) (t : Token) (n : ℕ) (form : F) → 0 < room
    → with_room room t n (Some form) ≡ Ok (Some form)
room_open zero t n form lt = absurd (omega (arith, lt))
room_open (suc room) t n form lt = refl

pub room_full : {F : Type 0} → (room : ℕ) (t : Token) (n : ℕ) (form : F) → room ≡ 0
    → with_room room t n (Some form) ≡ Err (fault (at_token faults.TooMany (suc most_reps) most_reps t))
room_full zero t n form e = refl
room_full (suc room) t n form e = absurd (omega (arith, e))

module _ {F A : Type 0} (form_at : ℕ → List Token → Read (Option F)) (rep_at : F → List Token → Read A) where
  pub reps_then : (room : ℕ) (reps : List A) (ts : List Token)
      → reps_from form_at rep_at room reps ts ≡ (form_at room ts >>= then_reps form_at rep_at room reps)
  reps_then zero reps ts = refl
  reps_then (suc room) reps ts = refl

  pub then_end : (room : ℕ) (reps : List A) (ts : List Token)
      → then_reps form_at rep_at room reps (None, ts) ≡ Ok (reps, ts)
  then_end zero reps ts = refl
  then_end (suc room) reps ts = refl

  pub then_one : (room : ℕ) (reps : List A) (f : F) (ts : List Token) → 0 < room
      → then_reps form_at rep_at room reps (Some f, ts) ≡ (rep_at f ts >>= λ r. reps_from form_at rep_at (room - 1)
      (reps ++ r.0 ∷ []) r.1)
  then_one zero reps f ts lt = absurd (omega (arith, lt))
  then_one (suc room) reps f ts lt =
      let e : suc room - 1 ≡ room = omega arith in
      rw e refl

  pub loop_one : (room : ℕ) (reps : List A) (f : F) (ts rest : List Token) → 0 < room
      → form_at room ts ≡ Ok (Some f, rest)
      → reps_from form_at rep_at room reps ts ≡ (rep_at f rest >>= λ r. reps_from form_at rep_at (room - 1)
      (reps ++ r.0 ∷ []) r.1)
  loop_one room reps f ts rest lt e = rw (reps_then room reps ts, e, then_one room reps f rest lt) refl
