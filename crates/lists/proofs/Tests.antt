-- Tests of the things of a list.
use Rattle.std.proofs.Common.{◌≡◌, ◌<◌, refl, inl, inr, sym, ◌∙◌, ap, subst, arith, true≢false, position}
use Rattle.std.specs.Prelude.{nat_lt, Bool, true, false, ◌||◌, ◌&&◌, if◌then◌else◌}
use Rattle.std.specs.Prelude.{Some, None, List, [], ◌∷◌, length, Contains}
use Rattle.std.specs.List.{filter, list_all, list_any, position_or_len}
use Rattle.std.proofs.lemmas.Bool.{ltb-false}
use Rattle.lists.proofs.Cases.{by_test, or-second}
use Rattle.lists.proofs.Members.{Contains-here, Contains-there, Contains-cases, Contains-none}

-- ---- whether any passes, and whether each does
pub list_any-contains : {X : Type 0} (p : X → Bool) (x : X) (xs : List X) → Contains xs x → p x ≡ true →
    list_any p xs ≡ true
list_any-contains p x [] h e = absurd (Contains-none x h)
list_any-contains p x (y ∷ xs) h e = elim (Contains-cases y x xs h) [
  | inl same ↦ let f : p y ≡ true = ap p same ∙ e in rw f refl
  | inr m ↦ let f = list_any-contains p x xs m e in by_test (p y) (λ g. rw g refl) (λ g. rw (g, f) refl)
]

-- a list whose test is true has a member that passes
pub list_any-found : {X : Type 0} (p : X → Bool) (xs : List X) → list_any p xs ≡ true →
    (x : X) × Contains xs x × (p x ≡ true)
list_any-found p [] e = absurd cc
list_any-found p (y ∷ xs) e = by_test (p y)
    (λ f. (y, Contains-here y xs, f))
    (λ f. let r = list_any-found p xs (or-second (p y) (list_any p xs) e f) in (r.0, Contains-there y r.0 xs r.1, r.2))

and-parts : (a b : Bool) → (a && b) ≡ true → (a ≡ true) × (b ≡ true)
and-parts true b e = (refl, e)
and-parts false b e = absurd cc

pub list_all-each : {X : Type 0} (p : X → Bool) (xs : List X) → list_all p xs ≡ true → (x : X) → Contains xs x →
    p x ≡ true
list_all-each p [] e x m = absurd (Contains-none x m)
list_all-each p (y ∷ xs) e x m =
    let parts = and-parts (p y) (list_all p xs) e in
    elim (Contains-cases y x xs m) [
      | inl same ↦ subst (λ z. p z ≡ true) same parts.0
      | inr k ↦ list_all-each p xs parts.1 x k
    ]

-- ---- the things that pass
pub Contains-filter : {X : Type 0} (p : X → Bool) (xs : List X) (x : X) → Contains xs x → p x ≡ true →
    Contains (filter p xs) x
Contains-filter p [] x m e = absurd (Contains-none x m)
Contains-filter p (y ∷ xs) x m e = elim (Contains-cases y x xs m) [
  | inl same ↦ (let f = subst (λ z. p z ≡ true) (sym same) e in
      subst (λ z. Contains (filter p (y ∷ xs)) z) same (rw f (Contains-here y (filter p xs))))
  | inr k ↦ by_test (p y) (λ f. rw f (Contains-there y x (filter p xs) (Contains-filter p xs x k e)))
      (λ f. rw f (Contains-filter p xs x k e))
]

pub Contains-filter_cases : {X : Type 0} (p : X → Bool) (xs : List X) (x : X) → Contains (filter p xs) x →
    Contains xs x × (p x ≡ true)
Contains-filter_cases p [] x m = absurd (Contains-none x m)
Contains-filter_cases p (y ∷ xs) x m = by_test (p y)
    (λ f. elim (Contains-cases y x (filter p xs) (rw f at m)) [
      | inl same ↦ (subst (λ z. Contains (y ∷ xs) z) same (Contains-here y xs), subst (λ z. p z ≡ true) same f)
      | inr k ↦ (let r = Contains-filter_cases p xs x k in (Contains-there y x xs r.0, r.1))
    ])
    (λ f. (let r = Contains-filter_cases p xs x (rw f at m) in (Contains-there y x xs r.0, r.1)))

-- ---- where a test passes first
first-place : {X : Type 0} (test : X → Bool) (xs : List X) → list_any test xs ≡ true →
    position_or_len test xs < length xs
first-place test [] h = absurd cc
first-place test (x ∷ xs) h = go (test x) refl (first-place test xs)
  where
    go : (b : Bool) → test x ≡ b → (list_any test xs ≡ true → position_or_len test xs < length xs) →
        position_or_len test (x ∷ xs) < length (x ∷ xs)
    go true e ih = rw e (omega arith)
    go false e ih = let k = ih (sym (ap (λ c. c || list_any test xs) e) ∙ h) in rw e (omega (arith, k))

pub position-first : {X : Type 0} (test : X → Bool) (xs : List X) → list_any test xs ≡ true →
    position test xs ≡ Some (position_or_len test xs)
position-first test xs h =
    ap (λ b. if b then Some (position_or_len test xs) else None)
    (by_test (nat_lt (position_or_len test xs) (length xs)) (λ e. e)
    (λ e. let a = ltb-false (position_or_len test xs) (length xs) e in let b = first-place test xs h in
    absurd (omega (arith, a, b))))

pub position-past : {X : Type 0} (test : X → Bool) (xs : List X) → list_any test xs ≡ false →
    position_or_len test xs ≡ length xs
position-past test [] h = refl
position-past test (x ∷ xs) h = go (test x) refl (position-past test xs)
  where
    go : (b : Bool) → test x ≡ b → (list_any test xs ≡ false → position_or_len test xs ≡ length xs) →
        position_or_len test (x ∷ xs) ≡ length (x ∷ xs)
    go true e ih = absurd (true≢false (sym (ap (λ c. c || list_any test xs) e) ∙ h))
    go false e ih = let k = ih (sym (ap (λ c. c || list_any test xs) e) ∙ h) in rw e (omega (arith, k))
