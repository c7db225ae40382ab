-- What comes first of occurrences, told by parts.
use Rattle.std.proofs.Common.{◌≡◌, ◌∙◌, refl, ap, sym, Bool, true, false, List, [], ◌∷◌, Option, Some, None}
use Rattle.std.proofs.lemmas.List.Elements.{All-nil, All-cons}
use Rattle.location_words.specs.declared.fault.WordFault.{WordFault}
use Rattle.location_words.specs.Faults.{fault_of}
use Rattle.explorer.specs.declared.found.WordLimit.{WordLimit}
use Rattle.explorer.specs.Walks.{Occurrence}
use Rattle.explorer.specs.Going.{Coming, found, past, over, first_of, limit_of, IsPassed, FirstIsTold, FirstsAreTold}

abbrev limit_in : WordLimit → Coming → WordLimit
limit_in d (found o os) = d
limit_in d (past l) = l
limit_in d over = d

abbrev one_in : Occurrence → Coming → Occurrence
one_in d (found o os) = o
one_in d (past l) = d
one_in d over = d

abbrev rest_in : List Occurrence → Coming → List Occurrence
rest_in d (found o os) = os
rest_in d (past l) = d
rest_in d over = d

-- ---- what comes first, by the first occurrence
module _ (wanted : Occurrence → Bool) (o : Occurrence) (os : List Occurrence) where
  pub first-past : (f : WordFault) → fault_of o.here.word ≡ Some f → first_of wanted (o ∷ os) ≡ past (limit_of f)
  first-past f e = rw e refl

  pub first-found : fault_of o.here.word ≡ None → wanted o ≡ true → first_of wanted (o ∷ os) ≡ found o os
  first-found e t = rw (e, t) refl

  pub first-passed : fault_of o.here.word ≡ None → wanted o ≡ false → first_of wanted (o ∷ os) ≡ first_of wanted os
  first-passed e t = rw (e, t) refl

  -- its word is past a limit
  refused : (f : WordFault) → fault_of o.here.word ≡ Some f → FirstIsTold wanted (o ∷ os)
  refused f e =
      let first = first-past f e in
      record {
        found_first = λ p rest h. let no : past (limit_of f) ≡ found p rest = sym first ∙ h in absurd cc;
        past_first = λ l h.
            ([], o, os, f, refl, All-nil (IsPassed wanted), e, ap (limit_in l) (sym h ∙ first));
        none_left = λ h. let no : past (limit_of f) ≡ over = sym first ∙ h in absurd cc;
      }

  -- it is wanted
  taken : fault_of o.here.word ≡ None → wanted o ≡ true → FirstIsTold wanted (o ∷ os)
  taken e t =
      let first = first-found e t in
      record {
        found_first = λ p rest h.
            let same : o ≡ p = ap (one_in o) (sym first ∙ h) in
            let others : os ≡ rest = ap (rest_in os) (sym first ∙ h) in (
              [],
              (λ j. same j ∷ others j),
              All-nil (IsPassed wanted),
              ap (λ (q : Occurrence). fault_of q.here.word) (sym same) ∙ e,
              ap wanted (sym same) ∙ t,
            );
        past_first = λ l h. let no : found o os ≡ past l = sym first ∙ h in absurd cc;
        none_left = λ h. let no : found o os ≡ over = sym first ∙ h in absurd cc;
      }

  -- it is passed by
  passed : fault_of o.here.word ≡ None → wanted o ≡ false → FirstIsTold wanted os → FirstIsTold wanted (o ∷ os)
  passed e t r =
      let first = first-passed e t in
      record {
        found_first = λ p rest h.
            let s = r.found_first p rest (sym first ∙ h) in
            (o ∷ s.0, ap (λ l. o ∷ l) s.1, All-cons (IsPassed wanted) o s.0 (e, t) s.2, s.3, s.4);
        past_first = λ l h.
            let s = r.past_first l (sym first ∙ h) in
            (o ∷ s.0, s.1, s.2, s.3, ap (λ l. o ∷ l) s.4, All-cons (IsPassed wanted) o s.0 (e, t) s.5, s.6, s.7);
        none_left = λ h. All-cons (IsPassed wanted) o os (e, t) (r.none_left (sym first ∙ h));
      }

  by-cases : (due : Option WordFault) (w : Bool) → fault_of o.here.word ≡ due → wanted o ≡ w →
      FirstIsTold wanted os → FirstIsTold wanted (o ∷ os)
  by-cases (Some f) w e t r = refused f e
  by-cases None true e t r = taken e t
  by-cases None false e t r = passed e t r

pub firsts_are_told : FirstsAreTold
firsts_are_told wanted [] = record {
  found_first = λ o rest h. absurd cc;
  past_first = λ l h. absurd cc;
  none_left = λ h. All-nil (IsPassed wanted);
}
firsts_are_told wanted (o ∷ os) =
    by-cases wanted o os (fault_of o.here.word) (wanted o) refl refl (firsts_are_told wanted os)
