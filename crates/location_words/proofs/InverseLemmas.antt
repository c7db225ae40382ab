-- What the loop of the inverse computes, and the limits of the inverse.
use Rattle.std.proofs.Common.{◌≡◌, ◌+◌, ◌-◌, ◌^◌, ◌≤◌, ◌<◌, ℕ, zero, suc, map, take, reverse}
use Rattle.std.proofs.Common.{length, arith, slice_index_or, ap, sym, ◌∙◌, refl, List, []}
use Rattle.std.proofs.Common.{◌∷◌, ◌++◌, All, ℤ, pos, negsuc, ◌-ℤ◌, to_z, of_z, w64}
use Rattle.std.specs.Prelude.{neg_ℤ, nat_abs}
use Rattle.std.proofs.lemmas.Int.{ints}
use Rattle.std.proofs.lemmas.List.{take_more, get_or-reverse, map-append, length-reverse, take_all}
use Rattle.std.proofs.lemmas.List.Elements.{All-map, All-weaker}
use Rattle.std.proofs.lemmas.List.Sorted.{IsPermutation-reverse, All-permutation}
use Rattle.location_words.specs.declared.pair.Pair.{Pair}
use Rattle.location_words.specs.Pairs.{pair, opposite, inverse, IsHeldWord}
use Rattle.location_words.proofs.WordLaws.{IsWord-inverse}

negated : (z : ℤ) → nat_abs z ≤ 2 ^ 40 → to_z w64 (of_z w64 (pos 0 -ℤ to_z w64 (of_z w64 z))) ≡ neg_ℤ z
negated (pos zero) h = omega (arith, ints)
negated (pos (suc n)) h = omega (arith, ints)
negated (negsuc n) h = omega (arith, ints)

pub nat_abs-neg : (z : ℤ) → nat_abs (neg_ℤ z) ≡ nat_abs z
nat_abs-neg (pos zero) = refl
nat_abs-neg (pos (suc n)) = refl
nat_abs-neg (negsuc n) = refl

pub inverse-more : (w out new : List Pair) (i : ℕ) (d : Pair) → i < length w → All (λ p. nat_abs p.power ≤ 2 ^ 40) w →
    new ≡
    out ++
    (record {
      datum = (slice_index_or w (length w - 1 - i) d).datum;
      power =
          to_z w64 (of_z w64 (pos 0 -ℤ to_z w64 (of_z w64 (slice_index_or w (length w - 1 - i) d).power)));
    }) ∷ [] →
    out ≡ map opposite (take i (reverse w)) → new ≡ map opposite (take (i + 1) (reverse w))
inverse-more w out new i d lt small e h =
    let x : Pair = slice_index_or w (length w - 1 - i) d in
    let long : i < length (reverse w) = rw length-reverse lt in
    let at : slice_index_or (reverse w) i d ≡ x = get_or-reverse w i d lt in
    let n = negated x.power (small (length w - 1 - i) d (omega arith)) in
    e ∙ (λ j. h j ++ (pair x.datum (n j) ∷ [])) ∙
    sym (ap (map opposite) (take_more (reverse w) i d long) ∙
    map-append opposite (take i (reverse w)) (slice_index_or (reverse w) i d ∷ []) ∙
    (λ j. map opposite (take i (reverse w)) ++ (opposite (at j) ∷ [])))

length-opposite : (w : List Pair) → length (map opposite w) ≡ length w
length-opposite [] = refl
length-opposite (p ∷ w) = ap suc (length-opposite w)

pub inverse-all : (w : List Pair) (i : ℕ) → length w ≤ i → map opposite (take i (reverse w)) ≡ inverse w
inverse-all w i h = ap (map opposite) (take_all i (reverse w) (rw length-reverse h))

pub IsHeldWord-inverse : (w : List Pair) → IsHeldWord w → IsHeldWord (inverse w)
IsHeldWord-inverse w h = record {
  is_word = IsWord-inverse w h.is_word;
  few = rw (length-opposite (reverse w), length-reverse w) h.few;
  small = All-map (λ p. nat_abs p.power ≤ 2 ^ 40) opposite (reverse w)
      (All-weaker (λ p. nat_abs p.power ≤ 2 ^ 40) (λ p. nat_abs (opposite p).power ≤ 2 ^ 40) (λ p k. rw nat_abs-neg k)
      (reverse w)
      (All-permutation (λ p. nat_abs p.power ≤ 2 ^ 40) w (reverse w) (IsPermutation-reverse w) h.small));
}
