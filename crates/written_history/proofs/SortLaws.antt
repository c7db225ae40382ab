-- Sorted lists without repeats have the members of the list, and each of them is below the next.
use Rattle.std.proofs.Common.{◌≡◌, ◌∙◌, ◌<◌, ◌+◌, ◌≤◌, refl, sym, subst, arith, nat_eq, nat_lt, true≢false}
use Rattle.std.specs.Prelude.{◌↔◌, ◌&&◌, ℕ, Bool, true, false, cond, if◌then◌else◌, List, [], ◌∷◌, Contains, length}
use Rattle.std.specs.Cmp.{IsEquivalence, and_equiv, on_equiv, nat_eq_equiv}
use Rattle.std.specs.List.{dedup}
use Rattle.std.specs.List.Sorted.{IsPermutation, IsSorted, IsStrictlySortedBy}
use Rattle.std.specs.Ordering.{is_eq, eq_by_cmp, nat_cmp, ordering_then}
use Rattle.std.specs.declared.cmp.Ordering.{Ordering}
use Rattle.std.specs.declared.cmp.Ordering.TheVariants.{Less, Equal, Greater}
use Rattle.std.proofs.lemmas.Bool.{eqb-true, ltb-true}
use Rattle.std.proofs.lemmas.Cmp.{nat_cmp_total, on_total, then_total}
use Rattle.std.proofs.lemmas.List.Kept.{Contains-dedup, Contains-from_dedup, IsStrictlySortedBy-dedup}
use Rattle.std.proofs.lemmas.List.Sorted.{Contains-permutation, IsPermutation-sym}
use Rattle.lists.proofs.Cases.{by_test}
use Rattle.lists.proofs.Members.{Contains-here, Contains-there}
use Rattle.history_text.specs.HistoryText.{Ascend, is_pair_below}

same-members : {X : Type 0} {E : X → X → Bool} → IsEquivalence E → ((x y : X) → E x y ≡ true → x ≡ y) →
    (old mid new : List X) → IsPermutation old mid → new ≡ dedup E mid → (x : X) → Contains new x ↔ Contains old x
same-members {X} {E} laws exact old mid new moved is x = (
  (λ m.
      Contains-permutation mid old x (IsPermutation-sym old mid moved)
      (Contains-from_dedup E mid x (subst (λ l. Contains l x) is m))),
  (λ m.
      subst (λ l. Contains l x) (sym is)
      (Contains-dedup laws exact mid x (Contains-permutation old mid x moved m))),
)

-- ---- the tests and the orders agree
by_equal : (e : Bool) → is_eq (cond e Equal Greater) ≡ e
by_equal true = refl
by_equal false = refl

by_less : (b e : Bool) → (b ≡ true → e ≡ false) → is_eq (cond b Less (cond e Equal Greater)) ≡ e
by_less true e h = sym (h refl)
by_less false e h = by_equal e

less-apart : (x y : ℕ) → nat_lt x y ≡ true → nat_eq x y ≡ false
less-apart x y t =
    by_test (nat_eq x y) (λ e. let a = ltb-true x y t in let b = eqb-true x y e in absurd (omega (arith, a, b)))
    (λ f. f)

nat-ties : (x y : ℕ) → nat_eq x y ≡ eq_by_cmp nat_cmp x y
nat-ties x y = sym (by_less (nat_lt x y) (nat_eq x y) (less-apart x y))

then-ties : (o p : Ordering) → is_eq (ordering_then o p) ≡ (is_eq o && is_eq p)
then-ties Less p = refl
then-ties Equal p = refl
then-ties Greater p = refl

and-left : (a b : Bool) → (a && b) ≡ true → a ≡ true
and-left true b e = refl
and-left false b e = absurd cc

and-right : (a b : Bool) → (a && b) ≡ true → b ≡ true
and-right true b e = e
and-right false b e = absurd cc

-- ---- numbers
pub numbers-order : (mid new : List ℕ) → IsSorted nat_cmp mid → new ≡ dedup nat_eq mid → IsStrictlySortedBy nat_cmp new
numbers-order mid new sorted is =
    subst (IsStrictlySortedBy nat_cmp) (sym is)
    (IsStrictlySortedBy-dedup {R = nat_cmp} nat_cmp_total {E = nat_eq} nat-ties mid sorted)

pub numbers-same : (old mid new : List ℕ) → IsPermutation old mid → new ≡ dedup nat_eq mid → (x : ℕ) →
    Contains new x ↔ Contains old x
numbers-same = same-members {E = nat_eq} nat_eq_equiv (λ x y t. eqb-true x y t)

-- ---- pairs
abbrev pub number_pair_cmp : ℕ × ℕ → ℕ × ℕ → Ordering
number_pair_cmp p q = ordering_then (nat_cmp p.0 q.0) (nat_cmp p.1 q.1)

abbrev pub number_pair_eq : ℕ × ℕ → ℕ × ℕ → Bool
number_pair_eq p q = nat_eq p.0 q.0 && nat_eq p.1 q.1

pair-ties : (p q : ℕ × ℕ) → number_pair_eq p q ≡ eq_by_cmp number_pair_cmp p q
pair-ties p q =
    (λ i. nat-ties p.0 q.0 i && nat-ties p.1 q.1 i) ∙ sym (then-ties (nat_cmp p.0 q.0) (nat_cmp p.1 q.1))

pair-exact : (p q : ℕ × ℕ) → number_pair_eq p q ≡ true → p ≡ q
pair-exact p q t =
    let a = eqb-true p.0 q.0 (and-left (nat_eq p.0 q.0) (nat_eq p.1 q.1) t) in
    let b = eqb-true p.1 q.1 (and-right (nat_eq p.0 q.0) (nat_eq p.1 q.1) t) in
    (λ i. (a i, b i))

pub pairs-order : (mid new : List (ℕ × ℕ)) → IsSorted number_pair_cmp mid → new ≡ dedup number_pair_eq mid →
    IsStrictlySortedBy number_pair_cmp new
pairs-order mid new sorted is =
    subst (IsStrictlySortedBy number_pair_cmp) (sym is)
    (IsStrictlySortedBy-dedup {R = number_pair_cmp}
    (then_total (on_total (λ (p : ℕ × ℕ). p.0) nat_cmp_total) (on_total (λ (p : ℕ × ℕ). p.1) nat_cmp_total))
    {E = number_pair_eq} pair-ties mid sorted)

pub pairs-same : (old mid new : List (ℕ × ℕ)) → IsPermutation old mid → new ≡ dedup number_pair_eq mid →
    (x : ℕ × ℕ) → Contains new x ↔ Contains old x
pairs-same =
    same-members {E = number_pair_eq}
    (and_equiv (on_equiv (λ (p : ℕ × ℕ). p.0) nat_eq_equiv) (on_equiv (λ (p : ℕ × ℕ). p.1) nat_eq_equiv)) pair-exact

-- ---- each is below the next
cmp-less : (x y : ℕ) → nat_cmp x y ≡ Less → nat_lt x y ≡ true
cmp-less x y e = by_less_cases (nat_lt x y) (nat_eq x y) e where
  by_less_cases : (b e : Bool) → cond b Less (cond e Equal Greater) ≡ Less → b ≡ true
  by_less_cases true e h = refl
  by_less_cases false true h = absurd cc
  by_less_cases false false h = absurd cc

pub numbers-ascend : (xs : List ℕ) → IsStrictlySortedBy nat_cmp xs → Ascend nat_lt xs
unfolding IsStrictlySortedBy
numbers-ascend [] s = tt
numbers-ascend (x ∷ []) s = tt
numbers-ascend (x ∷ y ∷ ys) s = (cmp-less x y s.0.0, numbers-ascend (y ∷ ys) s.1)

pair-less : (p q : ℕ × ℕ) → number_pair_cmp p q ≡ Less → is_pair_below p q ≡ true
pair-less p q e = cases (nat_lt p.0 q.0) (nat_eq p.0 q.0) (nat_cmp p.1 q.1) (nat_lt p.1 q.1) (less-apart p.0 q.0)
    (cmp-less p.1 q.1) e where
      cases : (b e : Bool) (o : Ordering) (c : Bool) → (b ≡ true → e ≡ false) → (o ≡ Less → c ≡ true) →
          ordering_then (cond b Less (cond e Equal Greater)) o ≡ Less → (if e then c else b) ≡ true
      cases true true o c apart less h = absurd (true≢false (apart refl))
      cases true false o c apart less h = refl
      cases false true o c apart less h = less h
      cases false false o c apart less h = absurd cc

pub pairs-ascend : (xs : List (ℕ × ℕ)) → IsStrictlySortedBy number_pair_cmp xs → Ascend is_pair_below xs
unfolding IsStrictlySortedBy
pairs-ascend [] s = tt
pairs-ascend (x ∷ []) s = tt
pairs-ascend (x ∷ y ∷ ys) s = (pair-less x y s.0.0, pairs-ascend (y ∷ ys) s.1)

-- numbers that ascend up to a greatest one are no more than that
ascends-few : (n x : ℕ) (xs : List ℕ) → Ascend nat_lt (x ∷ xs) → ((k : ℕ) → Contains (x ∷ xs) k → k < n) →
    x + length xs < n
ascends-few n x [] a h = (let top = h x (Contains-here x []) in omega (arith, top))
ascends-few n x (y ∷ ys) a h =
    let up = ltb-true x y a.0 in
    let rest = ascends-few n y ys a.1 (λ k m. h k (Contains-there x k (y ∷ ys) m)) in
    omega (arith, up, rest)

pub numbers-few : (n : ℕ) (xs : List ℕ) → Ascend nat_lt xs → ((k : ℕ) → Contains xs k → k < n) → length xs ≤ n
numbers-few n [] a h = omega (arith)
numbers-few n (x ∷ xs) a h = let up = ascends-few n x xs a h in omega (arith, up)
