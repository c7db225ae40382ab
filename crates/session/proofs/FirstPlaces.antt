-- A pool that has as many nodes as a file has records, and each record loaded, has nothing else.
use Rattle.std.proofs.Common.{◌≡◌, ◌≤◌, ◌<◌, ◌+◌, ◌∙◌, ap, sym, subst, refl, inl, inr, arith, true≢false, ℕ, zero, suc}
use Rattle.std.specs.Prelude.{◌⊎◌, nat_eq, nat_lt, length, List, [], ◌∷◌, Contains}
use Rattle.std.proofs.lemmas.Bool.{eq-eqb, eqb-true, ltb-true, ltb-false}
use Rattle.lists.specs.Distinct.{IsDistinct}
use Rattle.lists.proofs.Cases.{by_test, same_or_not}
use Rattle.lists.proofs.Distinct.{length-le_from_distinct}
use Rattle.lists.proofs.Members.{Contains-cases, Contains-here, Contains-none, Contains-there}
use Rattle.expansion_laws.specs.Expansion.{IsNumberOf}
use Rattle.shape_pool.specs.Calls.{IsLoaded, IsLoadedAs, IsOf}
use Rattle.shape_pool.specs.Rows.{Row, origin_at}

-- ---- the first number of an origin
not-lt : (x y : ℕ) → (x < y → ⊥) → y ≤ x
not-lt x y h =
    by_test (nat_lt x y) (λ t. absurd (h (ltb-true x y t))) (λ f. let g = ltb-false x y f in omega (arith, g))

not-below : (j k : ℕ) → j < suc k → (j ≡ k → ⊥) → j < k
not-below j k lt other =
    by_test (nat_lt j k) (λ t. ltb-true j k t)
    (λ f. let g = ltb-false j k f in absurd (other (omega (arith, g, lt))))

module _ (rows : List Row) (o : ℕ) where
  abbrev IsFirstOf : ℕ → Type 0
  IsFirstOf m = IsOf rows o m × ((j : ℕ) → IsOf rows o j → m ≤ j)

  first-from : (n k i : ℕ) → i ≡ k + n → IsOf rows o i → ((j : ℕ) → j < k → IsOf rows o j → ⊥) → (m : ℕ) × IsFirstOf m
  first-from zero k i e of none = (i, (of, λ j h. not-lt j i (λ lt. none j (omega (arith, lt, e)) h)))
  first-from (suc n) k i e of none =
      by_test (nat_eq (origin_at rows k) o)
      (λ t.
      let within = of.0 in
      (k, ((omega (arith, within, e), eqb-true (origin_at rows k) o t), λ j h. not-lt j k (λ lt. none j lt h))))
      (λ f. first-from n (suc k) i (omega (arith, e)) of
      (λ j lt h. same_or_not j k
      (λ q. true≢false (sym (eq-eqb (origin_at rows k) o (subst (λ z. origin_at rows z ≡ o) q h.1)) ∙ f))
      (λ other. none j (not-below j k lt other) h)))

  pub loaded-as : IsLoaded rows o → (m : ℕ) × IsLoadedAs rows o m
  loaded-as l =
      let m = first-from l.1 0 l.1 (omega arith) l.2 (λ j lt h. absurd (omega (arith, lt))) in
      (m.0, (l.0, m.1.0, m.1.1))

-- ---- all numbers below one
below : ℕ → List ℕ
below zero = []
below (suc k) = k ∷ below k

length-below : (k : ℕ) → length (below k) ≡ k
unfolding below
length-below zero = refl
length-below (suc k) = ap suc (length-below k)

in-below : (k i : ℕ) → i < k → Contains (below k) i
unfolding below
in-below zero i lt = absurd (omega (arith, lt))
in-below (suc k) i lt =
    same_or_not k i (λ e. subst (λ z. Contains (k ∷ below k) z) e (Contains-here k (below k)))
    (λ other. Contains-there k i (below k) (in-below k i (not-below i k lt (λ e. other (sym e)))))

-- ---- the numbers under which records are loaded
module _ (rows : List Row) (n : ℕ) (size : length rows ≡ n)
    (loaded : (k : ℕ) → IsNumberOf n k → IsLoaded rows k) where
  abbrev one : (k : ℕ) → suc k ≤ n → (m : ℕ) × IsLoadedAs rows (suc k) m
  one k le = loaded-as rows (suc k) (loaded (suc k) (omega arith, le))

  places : (k : ℕ) → k ≤ n → List ℕ
  places zero le = []
  places (suc k) le = (one k le).0 ∷ places k (omega (arith, le))

  length-places : (k : ℕ) (le : k ≤ n) → length (places k le) ≡ k
  unfolding places
  length-places zero le = refl
  length-places (suc k) le = ap suc (length-places k (omega (arith, le)))

  place-of-one : (k : ℕ) (le : k ≤ n) (i : ℕ) → Contains (places k le) i →
      (j : ℕ) × (1 ≤ j) × (j ≤ k) × IsLoadedAs rows j i
  unfolding places
  place-of-one zero le i m = absurd (Contains-none i m)
  place-of-one (suc k) le i m =
      elim (Contains-cases (one k le).0 i (places k (omega (arith, le))) m) [
        | inl e ↦ (suc k, omega arith, omega arith, subst (IsLoadedAs rows (suc k)) e (one k le).1)
        | inr r ↦ (
            let h = place-of-one k (omega (arith, le)) i r in
            let most = h.2 in
            (h.0, h.1, omega (arith, most), h.3))
      ]

  distinct-places : (k : ℕ) (le : k ≤ n) → IsDistinct (places k le)
  unfolding places
  distinct-places zero le = tt
  distinct-places (suc k) le = (
    (λ m.
        let h = place-of-one k (omega (arith, le)) (one k le).0 m in
        let most = h.2 in
        let same = sym (one k le).1.1.1 ∙ h.3.1.1 in
        omega (arith, most, same)),
    distinct-places k (omega (arith, le)),
  )

  is-in : (xs : List ℕ) (i : ℕ) → Contains xs i ⊎ (Contains xs i → ⊥)
  is-in [] i = inr (λ m. Contains-none i m)
  is-in (x ∷ xs) i =
      same_or_not x i (λ e. inl (subst (λ z. Contains (x ∷ xs) z) e (Contains-here x xs)))
      (λ other. elim (is-in xs i) [
        | inl m ↦ inl (Contains-there x i xs m)
        | inr absent ↦ inr (λ m. elim (Contains-cases x i xs m) [ inl e ↦ other e | inr r ↦ absent r ])
      ])

  whole : n ≤ n
  whole = omega arith

  within : (i : ℕ) → Contains (places n whole) i → Contains (below n) i
  within i m =
      let h = place-of-one n whole i m in
      let lt = h.3.1.0 in in-below n i (omega (arith, lt, size))

  -- each number is one under which a record is loaded
  pub all-loaded : (i : ℕ) → i < length rows → (k : ℕ) × IsNumberOf n k × IsLoadedAs rows k i
  all-loaded i lt =
      let all = places n whole in
      elim (is-in all i) [
        | inl m ↦ (let h = place-of-one n whole i m in (h.0, (h.1, h.2), h.3))
        | inr missing ↦ (
            let most =
            length-le_from_distinct (i ∷ all) (below n) (missing, distinct-places n whole)
            (λ x m. elim (Contains-cases i x all m) [
              | inl e ↦ subst (λ z. Contains (below n) z) e (in-below n i (omega (arith, lt, size)))
              | inr r ↦ within x r
            ]) in
            let long = length-places n whole in
            let few = length-below n in
            absurd (omega (arith, most, long, few)))
      ]
