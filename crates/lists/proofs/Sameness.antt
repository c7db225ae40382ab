-- Two lists have the same things, with repeats, where each thing comes as often in one as in the other.
use Rattle.std.proofs.Common.{◌≡◌, refl, sym, ◌∙◌, ap, subst, arith}
use Rattle.std.proofs.lemmas.List.Sums.{sum_by-cons}
use Rattle.std.proofs.lemmas.List.Sorted.{IsPermutation-refl, IsPermutation-trans, IsPermutation-cons}
use Rattle.std.proofs.lemmas.List.Sorted.{IsPermutation-middle, sum_by-IsPermutation}
use Rattle.std.proofs.lemmas.Option.{same_Some}
use Rattle.std.specs.Prelude.{◌+◌, ℕ, Bool, true, false, Option, None, Some, List}
use Rattle.std.specs.Prelude.{[], ◌∷◌, IsPermutation, if◌then◌else◌, sum_by}
use Rattle.std.specs.Option.{option_map}
use Rattle.lists.specs.Sameness.{is_empty, is_some_and, same_things, taken_out}

pub empty-of : {X : Type 0} (xs : List X) → is_empty xs ≡ true → xs ≡ []
empty-of [] e = refl
empty-of (x ∷ xs) e = absurd cc

mapped-is : {X : Type 0} (v : X) (o : Option (List X)) (rest : List X) → option_map (λ r. v ∷ r) o ≡ Some rest →
    (r : List X) × (o ≡ Some r) × (v ∷ r ≡ rest)
mapped-is v None rest e = absurd cc
mapped-is v (Some r) rest e = (r, refl, same_Some (v ∷ r) rest e)

abbrev pub once_or_never : Bool → ℕ
once_or_never true = 1
once_or_never false = 0

module _ {X : Type 0} (eq : X → X → Bool) (same : (a b : X) → eq a b ≡ true → a ≡ b) (itself : (a : X) → eq a a ≡ true)
  where
    -- how often a thing comes
    abbrev pub one : X → X → ℕ
    one u v = once_or_never (eq u v)

    abbrev pub count : X → List X → ℕ
    count u [] = 0
    count u (v ∷ vs) = one u v + count u vs

    count-permuted : (u : X) (us vs : List X) → IsPermutation us vs → count u vs ≡ count u us
    count-permuted u us vs p = summed vs ∙ sum_by-IsPermutation (one u) us vs p ∙ sym (summed us)
      where
        summed : (vs : List X) → count u vs ≡ sum_by (one u) vs
        summed [] = refl
        summed (v ∷ vs) = ap (λ n. one u v + n) (summed vs) ∙ sym (sum_by-cons (one u) v vs)

    pub one-itself : (u : X) → one u u ≡ 1
    one-itself u = ap once_or_never (itself u)

    -- what is taken out of a list stood in it
    taken-head : (u v : X) (vs rest : List X) → ((r : List X) → taken_out eq u vs ≡ Some r → IsPermutation (u ∷ r) vs) →
        (b : Bool) → eq u v ≡ b →
        (if b then Some vs else option_map (λ r. v ∷ r) (taken_out eq u vs)) ≡ Some rest →
        IsPermutation (u ∷ rest) (v ∷ vs)
    taken-head u v vs rest ih true f e =
        subst (λ l. IsPermutation (u ∷ l) (v ∷ vs)) (same_Some vs rest e)
        (subst (λ w. IsPermutation (w ∷ vs) (v ∷ vs)) (sym (same u v f)) (IsPermutation-refl (v ∷ vs)))
    taken-head u v vs rest ih false f e =
        let m = mapped-is v (taken_out eq u vs) rest e in
        subst (λ l. IsPermutation (u ∷ l) (v ∷ vs)) m.2
        (IsPermutation-trans (u ∷ v ∷ m.0) (v ∷ u ∷ m.0) (v ∷ vs) (IsPermutation-middle (u ∷ []) v m.0)
        (IsPermutation-cons v (u ∷ m.0) vs (ih m.0 m.1)))

    taken-is : (u : X) (vs rest : List X) → taken_out eq u vs ≡ Some rest → IsPermutation (u ∷ rest) vs
    taken-is u [] rest e = absurd cc
    taken-is u (v ∷ vs) rest e = taken-head u v vs rest (λ r f. taken-is u vs r f) (eq u v) refl e

    same-rest : (u : X) (us vs : List X) → ((rest : List X) → same_things eq us rest ≡ true → IsPermutation us rest) →
        (o : Option (List X)) → taken_out eq u vs ≡ o →
        is_some_and (λ rest. same_things eq us rest) o ≡ true → IsPermutation (u ∷ us) vs
    same-rest u us vs ih None f e = absurd cc
    same-rest u us vs ih (Some rest) f e =
        IsPermutation-trans (u ∷ us) (u ∷ rest) vs (IsPermutation-cons u us rest (ih rest e)) (taken-is u vs rest f)

    pub permuted : (us vs : List X) → same_things eq us vs ≡ true → IsPermutation us vs
    permuted [] [] e = IsPermutation-refl []
    permuted [] (v ∷ vs) e = absurd cc
    permuted (u ∷ us) vs e = same-rest u us vs (λ rest f. permuted us rest f) (taken_out eq u vs) refl e

    -- what comes in a list can be taken out of it
    found-head : (u v : X) (vs : List X) → ((count u vs ≡ 0 → ⊥) → (rest : List X) × (taken_out eq u vs ≡ Some rest)) →
        (b : Bool) →
        (once_or_never b + count u vs ≡ 0 → ⊥) → (rest : List X) ×
        ((if b then Some vs else option_map (λ r. v ∷ r) (taken_out eq u vs)) ≡ Some rest)
    found-head u v vs ih true h = (vs, refl)
    found-head u v vs ih false h = let r = ih (λ z. h (omega (arith, z))) in (v ∷ r.0, ap (option_map (λ l. v ∷ l)) r.1)

    taken-found : (u : X) (vs : List X) → (count u vs ≡ 0 → ⊥) → (rest : List X) × (taken_out eq u vs ≡ Some rest)
    taken-found u [] h = absurd (h refl)
    taken-found u (v ∷ vs) h = found-head u v vs (λ g. taken-found u vs g) (eq u v) h

    pub counted-same : (us vs : List X) → ((x : X) → count x us ≡ count x vs) → same_things eq us vs ≡ true
    counted-same [] [] h = refl
    counted-same [] (v ∷ vs) h = absurd (let e = h v in let f = one-itself v in omega (arith, e, f))
    counted-same (u ∷ us) vs h =
        let found = taken-found u vs (λ z. (let e = h u in let f = one-itself u in omega (arith, e, f, z))) in
        let less : (x : X) → count x us ≡ count x found.0 = λ x. (
        let e = h x in
        let f = count-permuted x (u ∷ found.0) vs (taken-is u vs found.0 found.1) in
        omega (arith, e, f)
        ) in
        ap (is_some_and (λ rest. same_things eq us rest)) found.1 ∙ counted-same us found.0 less

    pub same-of-permuted : (us vs : List X) → IsPermutation us vs → same_things eq us vs ≡ true
    same-of-permuted us vs p = counted-same us vs (λ x. sym (count-permuted x us vs p))
