-- Lists that ascend and have the same things are one list.
use Rattle.std.proofs.Common.{◌≡◌, ◌∙◌, refl, sym, subst, inl, inr, arith, eqb-true, ltb-true}
use Rattle.std.specs.Prelude.{◌⊎◌, ◌<◌, ◌==◌, ℕ, Bool, true, nat_lt, List, [], ◌∷◌, Contains}
use Rattle.lists.proofs.Cases.{by_test}
use Rattle.lists.proofs.Members.{Contains-here, Contains-there, Contains-cases, Contains-none}
use Rattle.history_text.specs.HistoryText.{Ascend, is_pair_below}

-- an order by a test
record IsOrder {A : Type 0} (below : A → A → Bool) (Below : A → A → Type 0) : Type 0 where
  told : (x y : A) → below x y ≡ true → Below x y
  through : (x y z : A) → Below x y → Below y z → Below x z
  apart : (x : A) → Below x x → ⊥

module _ {A : Type 0} (below : A → A → Bool) (Below : A → A → Type 0) (o : IsOrder below Below) where
  rest : (x : A) (xs : List A) → Ascend below (x ∷ xs) → Ascend below xs
  rest x [] a = tt
  rest x (y ∷ ys) a = a.1

  first-below : (x : A) (xs : List A) → Ascend below (x ∷ xs) → (y : A) → Contains xs y → Below x y
  first-below x [] a y m = absurd (Contains-none y m)
  first-below x (z ∷ xs) a y m = elim (Contains-cases z y xs m) [
    | inl e ↦ subst (λ v. Below x v) e (o.told x z a.0)
    | inr k ↦ o.through x z y (o.told x z a.0) (first-below z xs a.1 y k)
  ]

  same-first : (x y : A) (xs ys : List A) → Ascend below (x ∷ xs) → Ascend below (y ∷ ys) → Contains (y ∷ ys) x →
      Contains (x ∷ xs) y → x ≡ y
  same-first x y xs ys a b m n = elim (Contains-cases y x ys m) [
    | inl e ↦ sym e
    | inr k ↦ elim (Contains-cases x y xs n) [
      | inl e ↦ e
      | inr l ↦ absurd (o.apart x (o.through x y x (first-below x xs a y l) (first-below y ys b x k)))
    ]
  ]

  later : (x y : A) (xs ys : List A) → Ascend below (x ∷ xs) → x ≡ y →
      ((z : A) → Contains (x ∷ xs) z → Contains (y ∷ ys) z) → (z : A) → Contains xs z → Contains ys z
  later x y xs ys a e to z m = elim (Contains-cases y z ys (to z (Contains-there x z xs m))) [
    | inl g ↦ absurd (o.apart x (subst (λ v. Below x v) (sym (e ∙ g)) (first-below x xs a z m)))
    | inr k ↦ k
  ]

  same-lists : (xs ys : List A) → Ascend below xs → Ascend below ys →
      ((z : A) → Contains xs z → Contains ys z) → ((z : A) → Contains ys z → Contains xs z) → xs ≡ ys
  same-lists [] [] a b to from = refl
  same-lists [] (y ∷ ys) a b to from = absurd (Contains-none y (from y (Contains-here y ys)))
  same-lists (x ∷ xs) [] a b to from = absurd (Contains-none x (to x (Contains-here x xs)))
  same-lists (x ∷ xs) (y ∷ ys) a b to from =
      let e = same-first x y xs ys a b (to x (Contains-here x xs)) (from y (Contains-here y ys)) in
      let more =
      same-lists xs ys (rest x xs a) (rest y ys b) (later x y xs ys a e to) (later y x ys xs b (sym e) from) in
      λ i. e i ∷ more i

-- ---- numbers, and pairs of them

abbrev LessPair : ℕ × ℕ → ℕ × ℕ → Type 0
LessPair p q = (p.0 < q.0) ⊎ ((p.0 ≡ q.0) × (p.1 < q.1))

numbers-order : IsOrder nat_lt (λ m n. m < n)
numbers-order = record {
  told = λ m n e. ltb-true m n e;
  through = λ l m n a b. omega arith;
  apart = λ n a. omega arith;
}

pair-told : (p q : ℕ × ℕ) → is_pair_below p q ≡ true → LessPair p q
pair-told p q e = by_test (p.0 == q.0)
    (λ t. inr (eqb-true p.0 q.0 t, ltb-true p.1 q.1 (rw t at e)))
    (λ t. inl (ltb-true p.0 q.0 (rw t at e)))

pair-through : (p q r : ℕ × ℕ) → LessPair p q → LessPair q r → LessPair p r
pair-through p q r (inl a) (inl b) = inl (omega (arith, a, b))
pair-through p q r (inl a) (inr b) = inl (omega (arith, a, b.0))
pair-through p q r (inr a) (inl b) = inl (omega (arith, a.0, b))
pair-through p q r (inr a) (inr b) = let x = a.1 in let y = b.1 in inr (a.0 ∙ b.0, omega (arith, x, y))

pair-apart : (p : ℕ × ℕ) → LessPair p p → ⊥
pair-apart p (inl a) = omega (arith, a)
pair-apart p (inr a) = omega (arith, a.1)

pairs-order : IsOrder is_pair_below LessPair
pairs-order = record { told = pair-told; through = pair-through; apart = pair-apart }

pub one-pair-list : (ps qs : List (ℕ × ℕ)) → Ascend is_pair_below ps → Ascend is_pair_below qs →
    ((p : ℕ × ℕ) → Contains ps p → Contains qs p) → ((p : ℕ × ℕ) → Contains qs p → Contains ps p) → ps ≡ qs
one-pair-list ps qs a b to from = same-lists is_pair_below LessPair pairs-order ps qs a b to from

pub one-number-list : (ks ls : List ℕ) → Ascend nat_lt ks → Ascend nat_lt ls →
    ((k : ℕ) → Contains ks k → Contains ls k) → ((k : ℕ) → Contains ls k → Contains ks k) → ks ≡ ls
one-number-list ks ls a b to from = same-lists nat_lt (λ m n. m < n) numbers-order ks ls a b to from
