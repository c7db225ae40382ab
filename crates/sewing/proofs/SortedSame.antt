-- Lists in order that have the same things are one list.
use Rattle.std.proofs.Common.{◌≡◌, ◌+◌, ◌∙◌, refl, sym, ap, subst, arith, get_or, ℕ, suc}
use Rattle.std.specs.Prelude.{Bool, true, false, List, [], ◌∷◌, Contains, IsPermutation, IsSorted}
use Rattle.std.specs.Prelude.{Some, if◌then◌else◌}
use Rattle.std.specs.Option.{option_map}
use Rattle.std.specs.Cmp.{IsTotalOrder}
use Rattle.std.specs.Ordering.{is_eq, is_lt, ordering_reverse}
use Rattle.std.specs.declared.cmp.Ordering.{Ordering}
use Rattle.std.specs.declared.cmp.Ordering.TheVariants.{Less, Equal, Greater}
use Rattle.std.proofs.lemmas.List.MinMax.{ranks_by}
use Rattle.std.proofs.lemmas.List.Sorted.{length_permutation, sorted_far, Contains-permutation, IsPermutation-sym}
use Rattle.lists.specs.Sameness.{is_some_and, same_things, taken_out}
use Rattle.lists.proofs.Members.{Contains-here}
use Rattle.lists.proofs.Sameness.{permuted, same-of-permuted}

next : (k : ℕ) → suc k + 1 ≡ suc (k + 1)
next k = omega arith

-- ---- orderings
is-equal : (r : Ordering) → is_eq r ≡ true → r ≡ Equal
is-equal Less e = absurd cc
is-equal Equal e = refl
is-equal Greater e = absurd cc

self-equal : (r : Ordering) → r ≡ ordering_reverse r → is_eq r ≡ true
self-equal Less e = absurd cc
self-equal Equal e = refl
self-equal Greater e = absurd cc

neither : (r s : Ordering) → r ≡ ordering_reverse s → is_lt r ≡ false → is_lt s ≡ false → r ≡ Equal
neither Less s e a b = absurd cc
neither Equal s e a b = refl
neither Greater Less e a b = absurd cc
neither Greater Equal e a b = absurd cc
neither Greater Greater e a b = absurd cc

module _ {X : Type 0} (R : X → X → Ordering) (o : IsTotalOrder R) (exact : (x y : X) → R x y ≡ Equal → x ≡ y) where
  abbrev eq : X → X → Bool
  eq x y = is_eq (R x y)

  same : (x y : X) → eq x y ≡ true → x ≡ y
  same x y e = exact x y (is-equal (R x y) e)

  itself : (x : X) → eq x x ≡ true
  itself x = self-equal (R x x) (o.antisymm x x)

  -- the first one is least
  least : (x : X) (xs : List X) → IsSorted R (x ∷ xs) → (z : X) → Contains (x ∷ xs) z → is_lt (R z x) ≡ false
  least x xs s z m =
      subst (λ v. is_lt (R v x) ≡ false) m.2
      (sorted_far (λ a b. is_lt (R a b)) (ranks_by o (λ v. v)) (x ∷ xs) s 0 m.0 z (omega arith) m.1)

  rest : (x : X) (xs : List X) → IsSorted R (x ∷ xs) → IsSorted R xs
  rest x xs s k d le lt =
      let shifted : get_or (x ∷ xs) (suc k + 1) d ≡ get_or xs (k + 1) d = ap (λ n. get_or (x ∷ xs) n d) (next k) in
      subst (λ v. is_lt (R v (get_or xs k d)) ≡ false) shifted (s (suc k) d (omega arith) (omega (arith, lt)))

  -- what comes first in both is left out
  cancel : (x : X) (us vs : List X) → IsPermutation (x ∷ us) (x ∷ vs) → IsPermutation us vs
  cancel x us vs p =
      permuted eq same itself us vs
      (ap
      (λ b. is_some_and (λ rest. same_things eq us rest)
      (if b then Some vs else option_map (λ r. x ∷ r) (taken_out eq x vs))) (sym (itself x))
      ∙ same-of-permuted eq same itself (x ∷ us) (x ∷ vs) p)

  firsts : (x y : X) (xs ys : List X) → IsSorted R (x ∷ xs) → IsSorted R (y ∷ ys) →
      IsPermutation (x ∷ xs) (y ∷ ys) → x ≡ y
  firsts x y xs ys s t p =
      exact x y (neither (R x y) (R y x) (o.antisymm x y)
      (least y ys t x (Contains-permutation (x ∷ xs) (y ∷ ys) x p (Contains-here x xs)))
      (least x xs s y
      (Contains-permutation (y ∷ ys) (x ∷ xs) y (IsPermutation-sym (x ∷ xs) (y ∷ ys) p) (Contains-here y ys))))

  pub sorted-same : (xs ys : List X) → IsSorted R xs → IsSorted R ys → IsPermutation xs ys → xs ≡ ys
  sorted-same [] [] s t p = refl
  sorted-same [] (y ∷ ys) s t p = absurd (let e = length_permutation [] (y ∷ ys) p in omega (arith, e))
  sorted-same (x ∷ xs) [] s t p = absurd (let e = length_permutation (x ∷ xs) [] p in omega (arith, e))
  sorted-same (x ∷ xs) (y ∷ ys) s t p =
      let e = firsts x y xs ys s t p in
      let q : IsPermutation (x ∷ xs) (x ∷ ys) = subst (λ v. IsPermutation (x ∷ xs) (v ∷ ys)) (sym e) p in
      ap (λ v. v ∷ xs) e ∙ ap (λ l. y ∷ l) (sorted-same xs ys (rest x xs s) (rest y ys t) (cancel x xs ys q))
