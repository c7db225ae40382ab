-- Members of lists.
use Rattle.std.proofs.Common.{◌≡◌, ◌<◌, refl, sym, ◌∙◌, ap, subst, arith, inl, inr, slice_index_or}
use Rattle.std.specs.Prelude.{ℕ, zero, suc, ◌⊎◌, List, [], ◌∷◌, ◌++◌, map, length, reverse, Contains}
use Rattle.std.specs.List.{flat_map}
use Rattle.std.proofs.lemmas.List.{reverse-append, reverse-reverse, map-append}
use Rattle.std.proofs.lemmas.List.Elements.{Contains-append_left, Contains-append_right}
use Rattle.std.proofs.lemmas.List.Elements.{Contains-append_cases, Contains-push}

pub Contains-here : {X : Type 0} (x : X) (xs : List X) → Contains (x ∷ xs) x
Contains-here x xs = (0, omega arith, refl)

pub Contains-there : {X : Type 0} (y x : X) (xs : List X) → Contains xs x → Contains (y ∷ xs) x
Contains-there y x xs h = (suc h.0, omega arith, h.2)

-- the same thing is first
pub Contains-first : {X : Type 0} (y x : X) (xs : List X) → y ≡ x → Contains (y ∷ xs) x
Contains-first y x xs e = subst (λ v. Contains (y ∷ xs) v) e (Contains-here y xs)

pub Contains-cases : {X : Type 0} (y x : X) (xs : List X) → Contains (y ∷ xs) x → (y ≡ x) ⊎ Contains xs x
Contains-cases y x xs h = go h.0 h.1 h.2
  where
    go : (k : ℕ) → k < length (y ∷ xs) → slice_index_or (y ∷ xs) k x ≡ x → (y ≡ x) ⊎ Contains xs x
    go zero p e = inl e
    go (suc k) p e = inr (k, omega arith, e)

pub Contains-none : {X : Type 0} (x : X) → Contains [] x → ⊥
Contains-none x h = omega (arith, h.1)

pub Contains-map : {X Y : Type 0} (f : X → Y) (x : X) (xs : List X) → Contains xs x → Contains (map f xs) (f x)
Contains-map f x [] h = absurd (Contains-none x h)
Contains-map f x (y ∷ xs) h = elim (Contains-cases y x xs h) [
  | inl e ↦ Contains-first (f y) (f x) (map f xs) (ap f e)
  | inr m ↦ Contains-there (f y) (f x) (map f xs) (Contains-map f x xs m)
]

-- what stands in a mapped list is the image of a member
pub Contains-map_cases : {X Y : Type 0} (f : X → Y) (y : Y) (xs : List X) → Contains (map f xs) y →
    (x : X) × Contains xs x × (f x ≡ y)
Contains-map_cases f y [] h = absurd (Contains-none y h)
Contains-map_cases f y (x ∷ xs) h = elim (Contains-cases (f x) y (map f xs) h) [
  | inl e ↦ (x, Contains-here x xs, e)
  | inr m ↦ let r = Contains-map_cases f y xs m in (r.0, Contains-there x r.0 xs r.1, r.2)
]

-- what stands in the image of a member stands in the joined images
pub Contains-flat_map : {X Y : Type 0} (f : X → List Y) (x : X) (y : Y) (xs : List X) → Contains xs x →
    Contains (f x) y → Contains (flat_map f xs) y
Contains-flat_map f x y [] h m = absurd (Contains-none x h)
Contains-flat_map f x y (z ∷ xs) h m = elim (Contains-cases z x xs h) [
  | inl e ↦ Contains-append_left (f z) (flat_map f xs) y (subst (λ v. Contains (f v) y) (sym e) m)
  | inr k ↦ Contains-append_right (f z) (flat_map f xs) y (Contains-flat_map f x y xs k m)
]

-- what stands in joined images stands in the image of a member
pub Contains-flat_map_cases : {X Y : Type 0} (f : X → List Y) (y : Y) (xs : List X) → Contains (flat_map f xs) y →
    (x : X) × Contains xs x × Contains (f x) y
Contains-flat_map_cases f y [] h = absurd (Contains-none y h)
Contains-flat_map_cases f y (x ∷ xs) h = elim (Contains-append_cases (f x) (flat_map f xs) y h) [
  | inl m ↦ (x, Contains-here x xs, m)
  | inr m ↦ let r = Contains-flat_map_cases f y xs m in (r.0, Contains-there x r.0 xs r.1, r.2)
]

-- ---- the list the other way round
pub reverse-cons : {X : Type 0} (x : X) (xs : List X) → reverse (x ∷ xs) ≡ reverse xs ++ x ∷ []
reverse-cons x xs = reverse-append (x ∷ []) xs

pub reverse-push : {X : Type 0} (xs : List X) (x : X) → reverse (xs ++ x ∷ []) ≡ x ∷ reverse xs
reverse-push xs x = reverse-append xs (x ∷ [])

pub map-reverse : {X Y : Type 0} (f : X → Y) (xs : List X) → map f (reverse xs) ≡ reverse (map f xs)
map-reverse f [] = refl
map-reverse f (x ∷ xs) =
    ap (map f) (reverse-cons x xs) ∙ map-append f (reverse xs) (x ∷ []) ∙ ap (λ l. l ++ f x ∷ []) (map-reverse f xs) ∙
    sym (reverse-cons (f x) (map f xs))

pub Contains-reverse : {X : Type 0} (x : X) (xs : List X) → Contains xs x → Contains (reverse xs) x
Contains-reverse x [] h = absurd (Contains-none x h)
Contains-reverse x (y ∷ xs) h = subst (λ l. Contains l x) (sym (reverse-cons y xs)) (elim (Contains-cases y x xs h) [
  | inl e ↦ subst (λ z. Contains (reverse xs ++ y ∷ []) z) e (Contains-push (reverse xs) y)
  | inr m ↦ Contains-append_left (reverse xs) (y ∷ []) x (Contains-reverse x xs m)
])

pub Contains-reversed : {X : Type 0} (x : X) (xs : List X) → Contains (reverse xs) x → Contains xs x
Contains-reversed x xs h = subst (λ l. Contains l x) (reverse-reverse xs) (Contains-reverse x (reverse xs) h)

-- ---- a list by a member

-- a list with a member has a part before it and a part after it
pub split_by : {X : Type 0} (ys : List X) (x : X) → Contains ys x → (a : List X) × (b : List X) × (ys ≡ a ++ x ∷ b)
split_by [] x m = absurd (Contains-none x m)
split_by (y ∷ ys) x m = elim (Contains-cases y x ys m) [
  | inl e ↦ ([], ys, ap (λ z. z ∷ ys) e)
  | inr k ↦ let s = split_by ys x k in (y ∷ s.0, s.1, ap (λ l. y ∷ l) s.2)
]

-- maps that agree on the members
pub map-map : {X Y Z : Type 0} (a : X → Y) (b : Y → Z) (c : X → Z) (xs : List X) →
    ((x : X) → Contains xs x → b (a x) ≡ c x) → map b (map a xs) ≡ map c xs
map-map a b c [] same = refl
map-map a b c (x ∷ xs) same =
    ap (λ z. z ∷ map b (map a xs)) (same x (Contains-here x xs)) ∙
    ap (λ l. c x ∷ l) (map-map a b c xs (λ y m. same y (Contains-there x y xs m)))

pub flat_map-same : {X Y : Type 0} (a b : X → List Y) (xs : List X) → ((x : X) → Contains xs x → a x ≡ b x) →
    flat_map a xs ≡ flat_map b xs
flat_map-same a b [] same = refl
flat_map-same a b (x ∷ xs) same =
    ap (λ l. l ++ flat_map a xs) (same x (Contains-here x xs)) ∙
    ap (λ l. b x ++ l) (flat_map-same a b xs (λ y m. same y (Contains-there x y xs m)))
