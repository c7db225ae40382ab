-- Different numbers and their places.
use Rattle.std.proofs.Common.{◌≡◌, ◌<◌, ◌≤◌, ◌+◌, ◌-◌, zero, suc, refl, sym, subst, ◌∙◌, ap, arith, inl, inr}
use Rattle.std.specs.Prelude.{ℕ, Bool, true, false, not, nat_eq, IsTrue, Some, slice_get}
use Rattle.std.specs.Prelude.{List, [], ◌∷◌, ◌++◌, length, slice_index, slice_set, Contains}
use Rattle.std.proofs.Common.{true≢false}
use Rattle.std.proofs.lemmas.Bool.{cases_lt, eqb-true, eqb-false}
use Rattle.std.proofs.lemmas.Option.{slice_get-get_or}
use Rattle.std.proofs.lemmas.List.{get_or_default, get_or-set_same, get_or-set_other, length-set, length_push}
use Rattle.std.proofs.lemmas.List.{get_or_append_left}
use Rattle.std.proofs.lemmas.List.{get_or_push}
use Rattle.std.proofs.lemmas.List.Elements.{Contains-get_or, Contains-push_cases}
use Rattle.lists.specs.Distinct.{IsDistinct}
use Rattle.lists.proofs.Cases.{same_or_not}
use Rattle.lists.proofs.Distinct.{length-le_from_distinct}
use Rattle.lists.proofs.Members.{Contains-here, Contains-there}
use Rattle.written_order.specs.Numbering.{NoneFrom}
use Rattle.written_order.specs.Placed.{ArePlaced, IsNumbered}

by_test : {P : Type 0} (b : Bool) → (b ≡ true → P) → (b ≡ false → P) → P
by_test {P} b holds fails = elim b as (λ v. b ≡ v → P) [ true ↦ holds | false ↦ fails ] refl

-- the numbers below n
abbrev below : ℕ → List ℕ
below zero = []
below (suc n) = n ∷ below n

length-below : (n : ℕ) → length (below n) ≡ n
length-below zero = refl
length-below (suc n) = ap suc (length-below n)

below-has : (n k : ℕ) → k < n → Contains (below n) k
below-has zero k lt = absurd (omega (arith, lt))
below-has (suc n) k lt =
    same_or_not k n (λ e. subst (λ m. Contains (n ∷ below n) m) (sym e) (Contains-here n (below n)))
    (λ other. Contains-there n k (below n) (below-has n k (omega (arith, lt, other))))

distinct_by_places : (ns : List ℕ) → ((i j : ℕ) → i < j → j < length ns → slice_index ns i ≡ slice_index ns j → ⊥)
    → IsDistinct ns
distinct_by_places [] apart = tt
distinct_by_places (n ∷ ns) apart = (
  (λ there. apart 0 (suc there.0) (omega arith) (let lt = there.1 in omega (arith, lt))
      (sym there.2 ∙ get_or_default ns there.0 n 0 there.1)),
  distinct_by_places ns (λ i j first second. apart (suc i) (suc j) (omega (arith, first)) (omega (arith, second))),
)

module _ (ns ps : List ℕ) (p : ArePlaced ns ps) where
  numbers-apart : (i j : ℕ) → i < j → j < length ns → slice_index ns i ≡ slice_index ns j → ⊥
  numbers-apart i j first second same =
      let a = p.placed i (omega (arith, first, second)) in let b = p.placed j second in
      let e : slice_index ps (slice_index ns i) ≡ slice_index ps (slice_index ns j) = ap (slice_index ps) same in
      omega (arith, a, b, e, first)

  -- there are no more than places
  pub few_numbers : length ns ≤ length ps
  few_numbers =
      let all = length-le_from_distinct ns (below (length ps)) (distinct_by_places ns numbers-apart)
      (λ k there. below-has (length ps) k
      (subst (λ m. m < length ps) (get_or_default ns there.0 0 k there.1 ∙ there.2) (p.named there.0 there.1))) in
      omega (arith, all, length-below (length ps))

  -- a number with a place is there, and one with none isn't
  pub place-there : (k : ℕ) → k < length ps → 0 < slice_index ps k → Contains ns k
  place-there k lt above =
      let within = p.within k lt in
      subst (λ m. Contains ns m) (p.found k lt above)
      (Contains-get_or ns (slice_index ps k - 1) 0 (omega (arith, within, above)))

  pub place-none : (k : ℕ) → slice_index ps k ≡ 0 → Contains ns k → ⊥
  place-none k none there =
      let a = p.placed there.0 there.1 in
      let e : slice_index ps (slice_index ns there.0) ≡ slice_index ps k =
      ap (slice_index ps) (get_or_default ns there.0 0 k there.1 ∙ there.2) in
      omega (arith, a, e, none)

  pub there-within : (k : ℕ) → Contains ns k → k < length ps
  there-within k there =
      subst (λ m. m < length ps) (get_or_default ns there.0 0 k there.1 ∙ there.2) (p.named there.0 there.1)

  -- whether a number is there is told by its place
  pub has-tells : (k : ℕ) → k < length ps → (place : ℕ) → place ≡ slice_index ps k
      → (IsTrue (not (nat_eq place 0)) → Contains ns k) × (Contains ns k → IsTrue (not (nat_eq place 0)))
  has-tells k lt place is = by_test (nat_eq place 0)
      (λ e. (
        (λ h. absurd (true≢false (sym h ∙ ap not e))),
        (λ there. absurd (place-none k (sym is ∙ eqb-true place 0 e) there)),
      ))
      (λ e. (
        (λ h. place-there k lt (let differ = eqb-false place 0 e in omega (arith, differ, is))),
        (λ there. ap not e),
      ))

  -- its number, counted from the last
  pub numbered-at : (k : ℕ) → k < length ps → (place : ℕ) → place ≡ slice_index ps k → 0 < place
      → IsNumbered ns k (length ns - place + 1)
  numbered-at k lt place is above =
      let some : 0 < slice_index ps k = subst (λ m. 0 < m) is above in
      let within = p.within k lt in
      let before : slice_index ps k - 1 < length ns = omega (arith, within, some) in
      record {
        within = (omega (arith, within, is, above), omega (arith, within, is, above));
        at =
            ap (slice_get ns) (let same : length ns - (length ns - place + 1) ≡ slice_index ps k - 1 =
            omega (arith, within, is, above) in same)
            ∙ slice_get-get_or ns (slice_index ps k - 1) 0 before ∙ ap Some (p.found k lt some);
      }

  -- one number more
  pub placed_push : (k : ℕ) → k < length ps → (Contains ns k → ⊥)
      → ArePlaced (ns ++ k ∷ []) (slice_set ps k (length ns + 1))
  placed_push k lt new = record {
    few = let long = length-set ps k (length ns + 1) in let few = p.few in omega (arith, long, few);
    named = λ i le.
        let long = length-set ps k (length ns + 1) in let more = length_push ns k in
        elim (cases_lt i (length ns)) [
          | inl first ↦ (let old = p.named i first in let e = get_or_append_left ns (k ∷ []) 0 i first in
              omega (arith, old, e, long))
          | inr last ↦ (let e = get_or_push ns k 0 i (omega (arith, last, le, more)) in omega (arith, e, lt, long))
        ];
    placed = λ i le.
        let more = length_push ns k in
        elim (cases_lt i (length ns)) [
          | inl first ↦ (let e : slice_index (ns ++ k ∷ []) i ≡ slice_index ns i =
              get_or_append_left ns (k ∷ []) 0 i first in
              ap (slice_index (slice_set ps k (length ns + 1))) e
              ∙ get_or-set_other ps k (slice_index ns i) (length ns + 1) 0
              (λ same. new (subst (λ m. Contains ns m) same (Contains-get_or ns i 0 first)))
              ∙ p.placed i first)
          | inr last ↦ (let here : i ≡ length ns = omega (arith, last, le, more) in
              ap (slice_index (slice_set ps k (length ns + 1))) (get_or_push ns k 0 i (sym here))
              ∙ get_or-set_same ps k (length ns + 1) 0 lt ∙ ap (λ m. m + 1) (sym here))
        ];
    within = λ m le.
        let more = length_push ns k in let long = length-set ps k (length ns + 1) in
        same_or_not m k
        (λ e. (let here = get_or-set_same ps k (length ns + 1) 0 lt in
        let at : slice_index (slice_set ps k (length ns + 1)) m ≡ slice_index (slice_set ps k (length ns + 1)) k =
        ap (slice_index (slice_set ps k (length ns + 1))) e in omega (arith, here, at, more)))
        (λ other. (let there = get_or-set_other ps k m (length ns + 1) 0 other in
        let old = p.within m (omega (arith, le, long)) in omega (arith, there, old, more)));
    found = λ m le above.
        let long = length-set ps k (length ns + 1) in
        same_or_not m k
        (λ e. (let at : slice_index (slice_set ps k (length ns + 1)) m ≡ length ns + 1 =
        ap (slice_index (slice_set ps k (length ns + 1))) e ∙ get_or-set_same ps k (length ns + 1) 0 lt in
        get_or_push ns k 0 (slice_index (slice_set ps k (length ns + 1)) m - 1) (omega (arith, at)) ∙ sym e))
        (λ other. (let there : slice_index (slice_set ps k (length ns + 1)) m ≡ slice_index ps m =
        get_or-set_other ps k m (length ns + 1) 0 other in
        let small : m < length ps = omega (arith, le, long) in
        let some : 0 < slice_index ps m = subst (λ v. 0 < v) there above in
        let old = p.within m small in
        ap (λ v. slice_index (ns ++ k ∷ []) (v - 1)) there
        ∙ get_or_append_left ns (k ∷ []) 0 (slice_index ps m - 1) (omega (arith, old, some)) ∙ p.found m small some));
  }

-- ---- what came
pub none_on : (i k : ℕ) (a b c : List ℕ) → k < i → NoneFrom i a b → NoneFrom (k + 1) b c → NoneFrom i a c
none_on i k a b c lt first next m le there = first m le (next m (omega (arith, lt, le)) there)

pub none_push : (i : ℕ) (a b : List ℕ) → NoneFrom i a b → NoneFrom (i + 1) a (b ++ i ∷ [])
none_push i a b first m le there =
    elim (Contains-push_cases b i m there) [
      | inl old ↦ first m (omega (arith, le)) old
      | inr same ↦ absurd (omega (arith, le, same))
    ]
