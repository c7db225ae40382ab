-- Representations are read exactly as they are spelled, until their end.
use Rattle.std.proofs.Common.{◌≡◌, ℕ, zero, suc, ◌≤◌, List, [], ◌∷◌, ◌++◌, length, Option, Some, None, Ok, refl, sym}
use Rattle.std.proofs.Common.{ap, subst, ◌∙◌, append_assoc, append-nil, arith}
use Rattle.std.specs.List.{AllByRecursion, flat_map}
use Rattle.std.specs.Option.{option_map_or}
use Rattle.brep_tokens.specs.declared.text.Token.{Token}
use Rattle.entry_readers.specs.Begins.{Begins, FieldsAreExact}
use Rattle.lists.specs.Results.{◌>>=◌}
use Rattle.entry_readers.specs.Reading.{Read}
use Rattle.lists.proofs.Results.{bind_ok, ok_is}
use Rattle.tshape_data.specs.RepReading.{reps_from}

module _ {F A : Type 0} (form_at : ℕ → List Token → Read (Option F)) (rep_at : F → List Token → Read A) (text_of : A
    → List (List ℕ)) (end : List (List ℕ)) (Sound : A → Type 0) where
  -- one representation and the end are read exactly as they are spelled
  pub record OneIsExact : Type 0 where
    pub ends : (room : ℕ) (ts rest : List Token) → form_at room ts ≡ Ok (None, rest) → Begins ts end rest
    pub goes : (room : ℕ) (ts mid rest : List Token) (f : F) (r : A) → form_at room ts ≡ Ok (Some f, mid)
        → rep_at f mid ≡ Ok (r, rest) → Begins ts (text_of r) rest × Sound r
    pub full : (ts mid : List Token) (f : F) → form_at zero ts ≡ Ok (Some f, mid) → ⊥
    pub end_again : (room : ℕ) (ts rest : List Token) → Begins ts end rest → form_at room ts ≡ Ok (None, rest)
    pub rep_again : (room : ℕ) (ts rest : List Token) (r : A) → Begins ts (text_of r) rest → Sound r
        → (f : F) × (mid : List Token) × (form_at (suc room) ts ≡ Ok (Some f, mid)) × (rep_at f mid ≡ Ok (r, rest))

  -- what was read: these, and new ones
  pub record AreReps (room : ℕ) (reps : List A) (ts rest : List Token) (xs : List A) : Type 0 where
    pub new : List A
    pub all : xs ≡ reps ++ new
    pub begins : Begins ts (flat_map text_of new ++ end) rest
    pub sound : AllByRecursion Sound new
    pub few : length new ≤ room

  module _ (fields : FieldsAreExact) (one : OneIsExact) where
    abbrev done : List A × List Token → Read (List A)
    done x = Ok x

    abbrev after : ℕ → List A → A × List Token → Read (List A)
    after room reps r = reps_from form_at rep_at room (reps ++ r.0 ∷ []) r.1

    none_new : (room : ℕ) (reps : List A) (ts mid rest : List Token) (xs : List A) → form_at room ts ≡ Ok (None, mid)
        → done (reps, mid) ≡ done (xs, rest) → AreReps room reps ts rest xs
    none_new room reps ts mid rest xs e same =
        let p = ok_is (reps, mid) (xs, rest) same in
        record {
          new = [];
          all = sym (ap (λ q. q.0) p) ∙ sym (append-nil reps);
          begins = subst (λ (m : List Token). Begins ts end m) (ap (λ q. q.1) p) (one.ends room ts mid e);
          sound = tt;
          few = omega arith;
        }

    full_new : (reps : List A) (o : Option F) (ts mid rest : List Token) (xs : List A) → form_at zero ts ≡ Ok (o, mid)
        → done (reps, mid) ≡ done (xs, rest) → AreReps zero reps ts rest xs
    full_new reps None ts mid rest xs e same = none_new zero reps ts mid rest xs e same
    full_new reps (Some f) ts mid rest xs e same = absurd (one.full ts mid f e)

    some_new : (room : ℕ) (reps : List A) (f : F) (ts mid rest : List Token) (xs : List A)
        → ((reps' : List A) (ts' : List Token) → reps_from form_at rep_at room reps' ts' ≡ Ok (xs, rest)
        → AreReps room reps' ts' rest xs)
        → form_at (suc room) ts ≡ Ok (Some f, mid) → (rep_at f mid >>= after room reps) ≡ Ok (xs, rest)
        → AreReps (suc room) reps ts rest xs
    some_new room reps f ts mid rest xs further e same =
        let b = bind_ok (rep_at f mid) (after room reps) (xs, rest) same in
        let r = one.goes (suc room) ts mid b.0.1 f b.0.0 e b.1 in
        let more = further (reps ++ b.0.0 ∷ []) b.0.1 b.2 in
        record {
          new = b.0.0 ∷ more.new;
          all = more.all ∙ append_assoc reps (b.0.0 ∷ []) more.new;
          begins = subst (λ (z : List (List ℕ)). Begins ts z rest)
              (sym (append_assoc (text_of b.0.0) (flat_map text_of more.new) end))
              (fields.joined ts (text_of b.0.0) b.0.1 (flat_map text_of more.new ++ end) rest r.0 more.begins);
          sound = (r.1, more.sound);
          few = omega (arith, more.few);
        }

    one_new : (room : ℕ) (reps : List A) (o : Option F) (ts mid rest : List Token) (xs : List A)
        → ((reps' : List A) (ts' : List Token) → reps_from form_at rep_at room reps' ts' ≡ Ok (xs, rest)
        → AreReps room reps' ts' rest xs)
        → form_at (suc room) ts ≡ Ok (o, mid)
        → option_map_or (λ f. rep_at f mid >>= after room reps) o (done (reps, mid)) ≡ Ok (xs, rest)
        → AreReps (suc room) reps ts rest xs
    one_new room reps None ts mid rest xs further e same = none_new (suc room) reps ts mid rest xs e same
    one_new room reps (Some f) ts mid rest xs further e same = some_new room reps f ts mid rest xs further e same

    pub reps_takes : (room : ℕ) (reps : List A) (ts rest : List Token) (xs : List A)
        → reps_from form_at rep_at room reps ts ≡ Ok (xs, rest) → AreReps room reps ts rest xs
    reps_takes zero reps ts rest xs e =
        let b = bind_ok (form_at zero ts) (λ form. done (reps, form.1)) (xs, rest) e in
        full_new reps b.0.0 ts b.0.1 rest xs b.1 b.2
    reps_takes (suc room) reps ts rest xs e =
        let b = bind_ok (form_at (suc room) ts) (λ form. option_map_or (λ f. rep_at f form.1 >>= after room reps) form.0
        (done (reps, form.1))) (xs, rest) e in
        one_new room reps b.0.0 ts b.0.1 rest xs (λ reps' ts' e'. reps_takes room reps' ts' rest xs e') b.1 b.2

    pub reps_again : (room : ℕ) (reps new : List A) (ts rest : List Token)
        → Begins ts (flat_map text_of new ++ end) rest → AllByRecursion Sound new → length new ≤ room
        → reps_from form_at rep_at room reps ts ≡ Ok (reps ++ new, rest)
    reps_again zero reps [] ts rest b sound few = rw (one.end_again zero ts rest b, append-nil reps) refl
    reps_again (suc room) reps [] ts rest b sound few = rw (one.end_again (suc room) ts rest b, append-nil reps) refl
    reps_again zero reps (r ∷ new) ts rest b sound few = absurd (omega (arith, few))
    reps_again (suc room) reps (r ∷ new) ts rest b sound few =
        let joined = subst (λ (z : List (List ℕ)). Begins ts z rest)
        (append_assoc (text_of r) (flat_map text_of new) end) b in
        let s = fields.split ts (text_of r) (flat_map text_of new ++ end) rest joined in
        let x = one.rep_again room ts s.0 r s.1 sound.0 in
        rw (
          x.2,
          x.3,
          reps_again room (reps ++ r ∷ []) new s.0 rest s.2 sound.1 (omega (arith, few)),
          append_assoc reps (r ∷ []) new,
        ) refl
