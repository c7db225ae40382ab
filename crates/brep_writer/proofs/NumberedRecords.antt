-- Records whose uses name records above them, told by the number of each record.
use Rattle.std.proofs.Common.{◌≡◌, ◌<◌, ◌≤◌, ◌+◌, ◌-◌, refl, sym, ◌∙◌, ap, subst, arith}
use Rattle.std.specs.Prelude.{ℕ, zero, suc, Some, List, [], ◌∷◌, map, length, reverse, All, Contains, slice_get}
use Rattle.std.proofs.lemmas.List.{length-reverse, length-map}
use Rattle.std.proofs.lemmas.Option.{same_Some, slice_get-map, slice_get_within}
use Rattle.std.specs.Option.{option_map}
use Rattle.lists.proofs.Places.{slice_get-reverse}
use Rattle.lists.proofs.Members.{Contains-here, Contains-there}
use Rattle.expansion_laws.specs.Expansion.{NumberedUse, NamesAbove, IsNumberOf}

-- ---- lists
-- a list mapped twice is mapped once, where that agrees on its members
pub map-map : {X Y Z : Type 0} (a : X → Y) (b : Y → Z) (c : X → Z) (xs : List X)
    → ((x : X) → Contains xs x → b (a x) ≡ c x) → map b (map a xs) ≡ map c xs
map-map a b c [] h = refl
map-map a b c (x ∷ xs) h = λ i. h x (Contains-here x xs) i ∷ map-map a b c xs (λ y m. h y (Contains-there x y xs m)) i

-- what a mapped list has at a place counted from its end
pub map-from_end : {X Y : Type 0} (a : X → Y) (xs : List X) (k : ℕ) (x : X) → slice_get xs (length xs - k) ≡ Some x
    → slice_get (map a xs) (length (map a xs) - k) ≡ Some (a x)
map-from_end a xs k x e =
    ap (λ n. slice_get (map a xs) (n - k)) (length-map xs a) ∙ slice_get-map a xs (length xs - k) ∙ ap (option_map a) e

-- ---- names of records above, by places and by numbers
module _ (most : ℕ) where
  abbrev IsBetween : ℕ → NumberedUse → Type 0
  IsBetween k u = (k < u.number) × (u.number ≤ most)

  names-at : (first : ℕ) (records : List (List NumberedUse)) → NamesAbove first records
      → most + 1 ≡ first + length records →
      (i : ℕ) (us : List NumberedUse) → slice_get records i ≡ Some us → All (IsBetween (first + i)) us
  names-at first [] h size i us e = absurd cc
  names-at first (vs ∷ rest) h size zero us e =
      subst (All (IsBetween (first + 0))) (same_Some vs us e) (λ k d lt. (let low = (h.0 k d lt).0 in
      let high = (h.0 k d lt).1 in (omega (arith, low), omega (arith, high, size))))
  names-at first (vs ∷ rest) h size (suc i) us e =
      let there : suc first + i ≡ first + suc i = omega arith in
      subst (λ n. All (IsBetween n) us) there (names-at (suc first) rest h.1 (omega (arith, size)) i us e)

  names-from : (first : ℕ) (records : List (List NumberedUse)) → most + 1 ≡ first + length records →
      ((i : ℕ) (us : List NumberedUse) → slice_get records i ≡ Some us → All (IsBetween (first + i)) us)
      → NamesAbove first records
  names-from first [] size h = tt
  names-from first (us ∷ rest) size h = (
    (λ k d lt. (let low = (h 0 us refl k d lt).0 in let high = (h 0 us refl k d lt).1 in
        (omega (arith, low), omega (arith, high, size)))),
    names-from (suc first) rest (omega (arith, size))
        (λ i vs e. (let there : first + suc i ≡ suc first + i = omega arith in
        subst (λ n. All (IsBetween n) vs) there (h (suc i) vs e))),
  )

-- each use of the record with the number `own` names a record above it, of n
abbrev pub NamesAboveIts : ℕ → ℕ → List NumberedUse → Type 0
NamesAboveIts n own us = All (λ u. (own < u.number) × (u.number ≤ n)) us

module _ (records : List (List NumberedUse)) where
  from-end : (k : ℕ) → IsNumberOf (length records) k
      → slice_get (reverse records) (k - 1) ≡ slice_get records (length records - k)
  from-end k n =
      let low = n.0 in let high = n.1 in
      let same : length records - suc (k - 1) ≡ length records - k = omega (arith, low) in
      slice_get-reverse records (k - 1) (omega (arith, low, high)) ∙ ap (slice_get records) same

  pub names_of-number : NamesAbove 1 (reverse records) → (k : ℕ) (us : List NumberedUse) → IsNumberOf (length records) k
      → slice_get records (length records - k) ≡ Some us →
      NamesAboveIts (length records) k us
  names_of-number h k us n e =
      let low = n.0 in let long = length-reverse records in
      let there : 1 + (k - 1) ≡ k = omega (arith, low) in
      subst (λ j. NamesAboveIts (length records) j us) there
      (names-at (length records) 1 (reverse records) h (omega (arith, long)) (k - 1) us (from-end k n ∙ e))

  pub names_from-numbers :
      ((k : ℕ) (us : List NumberedUse) → IsNumberOf (length records) k
      → slice_get records (length records - k) ≡ Some us → NamesAboveIts (length records) k us) →
      NamesAbove 1 (reverse records)
  names_from-numbers h =
      let long = length-reverse records in
      names-from (length records) 1 (reverse records) (omega (arith, long)) (λ i us e.
      let within = slice_get_within (reverse records) i us e in
      let n : IsNumberOf (length records) (1 + i) = (omega arith, omega (arith, within, long)) in
      let back : (1 + i) - 1 ≡ i = omega arith in
      h (1 + i) us n (sym (from-end (1 + i) n) ∙ ap (slice_get (reverse records)) back ∙ e))
