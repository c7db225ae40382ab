-- The numbers of words.
use Rattle.std.proofs.Common.{◌≡◌, ◌≤◌, ◌<◌, ◌+◌, ◌-◌, refl, sym, ◌∙◌, ap, subst, arith, inl, inr}
use Rattle.std.specs.Prelude.{ℕ, zero, suc, Bool, true, false, if◌then◌else◌, List, [], ◌∷◌, ◌++◌, length, map}
use Rattle.std.specs.Prelude.{slice_get, unwrap_or, Option, Some, None, Contains}
use Rattle.std.proofs.lemmas.List.{length-append, length-map}
use Rattle.lists.proofs.Members.{Contains-cases, Contains-none}
use Rattle.lists.proofs.Cases.{by_test}
use Rattle.location_words.specs.declared.pair.Pair.{Pair}
use Rattle.location_words.specs.Equal.{pairs_decide}
use Rattle.location_words.specs.Pairs.{pairs_eq}
use Rattle.location_words.specs.Tables.{entered}
use Rattle.written_locations.specs.Further.{fixed_number, with_word, place_in, number_of_word, or_after}
use Rattle.written_locations.proofs.Words.{Word, by_fixed, entered-front, fixed-stays, open-enters}

-- ---- places
place-first : (b : Bool) (v w : Word) (vs : List Word) → pairs_eq w v ≡ b
    → place_in (v ∷ vs) w ≡ (if b then 1 else suc (place_in vs w))
place-first b v w vs e = ap (λ c. if c then 1 else suc (place_in vs w)) e

differs : (w v : Word) → pairs_eq w v ≡ false → v ≡ w → ⊥
differs w v e same = true-false ((pairs_decide w v).1 (sym same)) e
  where
    true-false : {b : Bool} → b ≡ true → b ≡ false → ⊥
    true-false t f = cc

-- a word stands at its place, where something stands before the list
pub place-has : (x : Word) (ws : List Word) (w : Word) → Contains ws w → slice_get (x ∷ ws) (place_in ws w) ≡ Some w
place-has x [] w m = absurd (Contains-none w m)
place-has x (v ∷ vs) w m = by_test (pairs_eq w v)
    (λ e. ap (slice_get (x ∷ v ∷ vs)) (place-first true v w vs e) ∙ ap Some (sym ((pairs_decide w v).0 e)))
    (λ e. elim (Contains-cases v w vs m) [
      | inl same ↦ absurd (differs w v e same)
      | inr k ↦ ap (slice_get (x ∷ v ∷ vs)) (place-first false v w vs e) ∙ place-has v vs w k
    ])

pub place-kept : (ws more : List Word) (w : Word) → Contains ws w → place_in (ws ++ more) w ≡ place_in ws w
place-kept [] more w m = absurd (Contains-none w m)
place-kept (v ∷ vs) more w m = by_test (pairs_eq w v)
    (λ e. place-first true v w (vs ++ more) e ∙ sym (place-first true v w vs e))
    (λ e. elim (Contains-cases v w vs m) [
      | inl same ↦ absurd (differs w v e same)
      | inr k ↦ place-first false v w (vs ++ more) e ∙ ap suc (place-kept vs more w k)
          ∙ sym (place-first false v w vs e)
    ])

pub place-within : (ws : List Word) (w : Word) → Contains ws w → (1 ≤ place_in ws w) × (place_in ws w ≤ length ws)
place-within [] w m = absurd (Contains-none w m)
place-within (v ∷ vs) w m = by_test (pairs_eq w v)
    (λ e. (let p = place-first true v w vs e in (omega (arith, p), omega (arith, p))))
    (λ e. elim (Contains-cases v w vs m) [
      | inl same ↦ absurd (differs w v e same)
      | inr k ↦ (let p = place-first false v w vs e in let r = place-within vs w k in let low = r.0 in let high = r.1 in
          (omega (arith, p), omega (arith, p, high)))
    ])

-- ---- numbers
pub fixed-number : (datums : ℕ) (further : List Word) (w : Word) (k : ℕ) → fixed_number w ≡ Some k
    → number_of_word datums further w ≡ k
fixed-number datums further w k e = ap (λ o. or_after o datums further w) e

pub open-number : (datums : ℕ) (further : List Word) (w : Word) → fixed_number w ≡ None
    → number_of_word datums further w ≡ datums + place_in further w
open-number datums further w e = ap (λ o. or_after o datums further w) e

-- a word keeps its number when another is entered
pub number-kept : (datums : ℕ) (further : List Word) (v w : Word) → (fixed_number w ≡ None → Contains further w) →
    number_of_word datums (with_word further v) w ≡ number_of_word datums further w
number-kept datums further v w has = by_fixed (fixed_number w)
    (λ k e. fixed-number datums (with_word further v) w k e ∙ sym (fixed-number datums further w k e))
    (λ e. open-number datums (with_word further v) w e ∙ ap (λ p. datums + p) (kept e)
    ∙ sym (open-number datums further w e))
  where
    kept : fixed_number w ≡ None → place_in (with_word further v) w ≡ place_in further w
    kept e = by_fixed (fixed_number v)
        (λ k f. ap (λ l. place_in l w) (fixed-stays further v k f))
        (λ f. (let front = entered-front further v in
        ap (λ l. place_in l w) (open-enters further v f ∙ front.1) ∙ place-kept further front.0 w (has e)))
