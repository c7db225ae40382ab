-- Lists that have each thing once: what is left of a list without repeats, and sums over two such lists of the same
-- things.
use Rattle.std.proofs.Common.{◌≡◌, refl, sym, ◌∙◌, subst, arith, inl, inr}
use Rattle.std.proofs.lemmas.List.Sorted.{sum_by-IsPermutation}
use Rattle.std.proofs.lemmas.List.Sums.{sum_by-cons}
use Rattle.std.specs.Prelude.{◌+◌, ℕ, Bool, true, false, List, [], ◌∷◌, sum_by, Contains, if◌then◌else◌}
use Rattle.std.specs.List.{list_any}
use Rattle.lists.proofs.Sameness.{count, counted-same, once_or_never, one-itself, permuted}
use Rattle.lists.specs.Distinct.{IsDistinct, Counts, each_once}
use Rattle.lists.proofs.Tests.{list_any-contains, list_any-found}
use Rattle.lists.proofs.Members.{Contains-cases, Contains-here, Contains-none, Contains-there}
use Rattle.lists.proofs.Distinct.{length-le_from_distinct}
use Rattle.lists.proofs.Cases.{by_test}

-- two lists that have each thing of a fact once are as long
pub counts-one : {X : Type 0} (P : X → Type 0) (m n : ℕ) → Counts P m → Counts P n → m ≡ n
counts-one P m n a b =
    let low = length-le_from_distinct a.0 b.0 a.1.0 (λ x k. (b.1.1 x).0 ((a.1.1 x).1 k)) in
    let high = length-le_from_distinct b.0 a.0 b.1.0 (λ x k. (a.1.1 x).0 ((b.1.1 x).1 k)) in
    let e = a.2 in let f = b.2 in
    omega (arith, low, high, e, f)

-- sums of what agrees on the members
pub sum-same : {X : Type 0} (f g : X → ℕ) (xs : List X) → ((x : X) → Contains xs x → f x ≡ g x) →
    sum_by f xs ≡ sum_by g xs
sum-same f g [] h = refl
sum-same f g (x ∷ xs) h =
    sum_by-cons f x xs ∙ (λ i. h x (Contains-here x xs) i + sum-same f g xs (λ y m. h y (Contains-there x y xs m)) i) ∙
    sym (sum_by-cons g x xs)

module _ {X : Type 0} (eq : X → X → Bool) (same : (a b : X) → eq a b ≡ true → a ≡ b) (itself : (a : X) → eq a a ≡ true)
  where
    -- ---- a list without repeats
    once-keeps : (b : Bool) (x y : X) (xs : List X) → Contains (each_once eq xs) y →
        Contains (if b then each_once eq xs else x ∷ each_once eq xs) y
    once-keeps true x y xs m = m
    once-keeps false x y xs m = Contains-there x y (each_once eq xs) m

    once-here : (x : X) (xs : List X) → ((y : X) → Contains xs y → Contains (each_once eq xs) y) → (b : Bool) →
        list_any (eq x) xs ≡ b →
        Contains (if b then each_once eq xs else x ∷ each_once eq xs) x
    once-here x xs ih true e =
        let found = list_any-found (eq x) xs e in
        ih x (subst (λ z. Contains xs z) (sym (same x found.0 found.2)) found.1)
    once-here x xs ih false e = Contains-here x (each_once eq xs)

    pub once-has : (xs : List X) (y : X) → Contains xs y → Contains (each_once eq xs) y
    once-has [] y m = absurd (Contains-none y m)
    once-has (x ∷ xs) y m = elim (Contains-cases x y xs m) [
      | inl e ↦ subst (λ z. Contains (each_once eq (x ∷ xs)) z) e
          (once-here x xs (λ y k. once-has xs y k) (list_any (eq x) xs) refl)
      | inr k ↦ once-keeps (list_any (eq x) xs) x y xs (once-has xs y k)
    ]

    once-head : (b : Bool) (x y : X) (xs : List X) → ((y : X) → Contains (each_once eq xs) y → Contains xs y) →
        Contains (if b then each_once eq xs else x ∷ each_once eq xs) y → Contains (x ∷ xs) y
    once-head true x y xs ih m = Contains-there x y xs (ih y m)
    once-head false x y xs ih m = elim (Contains-cases x y (each_once eq xs) m) [
      | inl e ↦ subst (λ z. Contains (x ∷ xs) z) e (Contains-here x xs)
      | inr k ↦ Contains-there x y xs (ih y k)
    ]

    pub once-of : (xs : List X) (y : X) → Contains (each_once eq xs) y → Contains xs y
    once-of [] y m = m
    once-of (x ∷ xs) y m = once-head (list_any (eq x) xs) x y xs (λ y k. once-of xs y k) m

    once-next : (x : X) (xs : List X) → IsDistinct (each_once eq xs) → (b : Bool) → list_any (eq x) xs ≡ b →
        IsDistinct (if b then each_once eq xs else x ∷ each_once eq xs)
    once-next x xs d true e = d
    once-next x xs d false e = ((λ m. let f = list_any-contains (eq x) x xs (once-of xs x m) (itself x) in cc), d)

    pub once-distinct : (xs : List X) → IsDistinct (each_once eq xs)
    once-distinct [] = tt
    once-distinct (x ∷ xs) = once-next x xs (once-distinct xs) (list_any (eq x) xs) refl

    -- ---- how often a thing comes in a list that has each once
    apart-zero : (x y : X) → (y ≡ x → ⊥) → (b : Bool) → eq x y ≡ b → once_or_never b ≡ 0
    apart-zero x y h true e = absurd (h (sym (same x y e)))
    apart-zero x y h false e = refl

    count-none : (x : X) (xs : List X) → (Contains xs x → ⊥) → count eq same itself x xs ≡ 0
    count-none x [] h = refl
    count-none x (y ∷ xs) h =
        let head = apart-zero x y (λ e. h (subst (λ z. Contains (y ∷ xs) z) e (Contains-here y xs))) (eq x y) refl in
        let rest = count-none x xs (λ m. h (Contains-there y x xs m)) in
        omega (arith, head, rest)

    count-once : (x : X) (xs : List X) → IsDistinct xs → Contains xs x → count eq same itself x xs ≡ 1
    count-once x [] d m = absurd (Contains-none x m)
    count-once x (y ∷ xs) d m = elim (Contains-cases y x xs m) [
      | inl e ↦
          (let rest = count-none x xs (subst (λ z. Contains xs z → ⊥) e d.0) in
          let head = subst (λ z. once_or_never (eq x z) ≡ 1) (sym e) (one-itself eq same itself x) in
          omega (arith, head, rest))
      | inr k ↦
          (let head = apart-zero x y (λ e. d.0 (subst (λ z. Contains xs z) (sym e) k)) (eq x y) refl in
          let rest = count-once x xs d.1 k in
          omega (arith, head, rest))
    ]

    counts-agree : (xs ys : List X) → IsDistinct xs → IsDistinct ys → ((x : X) → Contains xs x → Contains ys x) →
        ((x : X) → Contains ys x → Contains xs x) → (x : X) →
        count eq same itself x xs ≡ count eq same itself x ys
    counts-agree xs ys d e there back x = by_test (list_any (eq x) xs)
        (λ f. (let found = list_any-found (eq x) xs f in
        let m = subst (λ z. Contains xs z) (sym (same x found.0 found.2)) found.1 in
        count-once x xs d m ∙ sym (count-once x ys e (there x m))))
        (λ f. (let none : Contains xs x → ⊥ = λ m. (let g = list_any-contains (eq x) x xs m (itself x) in cc) in
        count-none x xs none ∙ sym (count-none x ys (λ m. none (back x m)))))

    -- sums over two such lists of the same things
    pub sums-agree : (f : X → ℕ) (xs ys : List X) → IsDistinct xs → IsDistinct ys →
        ((x : X) → Contains xs x → Contains ys x) → ((x : X) → Contains ys x → Contains xs x) →
        sum_by f xs ≡ sum_by f ys
    sums-agree f xs ys d e there back =
        sym
        (sum_by-IsPermutation f xs ys (permuted eq same itself xs ys
        (counted-same eq same itself xs ys (counts-agree xs ys d e there back))))
