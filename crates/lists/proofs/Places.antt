-- What stands at the places of lists.
use Rattle.std.proofs.Common.{◌≡◌, ◌<◌, ◌≤◌, ◌-◌, ◌+◌, refl, sym, ◌∙◌, ap, subst}
use Rattle.std.proofs.Common.{arith, inl, inr, get_or, slice_index_or, set, take, drop}
use Rattle.std.specs.Prelude.{ℕ, zero, suc, ◌⊎◌, true, false, nat_lt, None, Some, Option, List}
use Rattle.std.specs.Prelude.{[], ◌∷◌, ◌++◌, map, length, reverse, Contains, slice_get, unwrap_or}
use Rattle.std.specs.Option.{option_map}
use Rattle.std.proofs.lemmas.Bool.{ltb-true, ltb-false}
use Rattle.std.proofs.lemmas.List.{length-map, length-reverse, take_all, get_or-reverse}
use Rattle.std.proofs.lemmas.Option.{same_Some, slice_get-get_or, slice_get-map, slice_get_past, slice_get_within}
use Rattle.lists.proofs.Members.{Contains-here, Contains-there, Contains-cases, Contains-none}

-- what stands at a place is a member, and each member stands at a place
pub Contains-at : {X : Type 0} (xs : List X) (i : ℕ) (x : X) → slice_get xs i ≡ Some x → Contains xs x
Contains-at [] i x e = absurd cc
Contains-at (y ∷ xs) zero x e = subst (λ z. Contains (y ∷ xs) z) (same_Some y x e) (Contains-here y xs)
Contains-at (y ∷ xs) (suc i) x e = Contains-there y x xs (Contains-at xs i x e)

pub place_of : {X : Type 0} (xs : List X) (x : X) → Contains xs x → (i : ℕ) × (slice_get xs i ≡ Some x)
place_of [] x h = absurd (Contains-none x h)
place_of (y ∷ xs) x h = elim (Contains-cases y x xs h) [
  | inl e ↦ (0, ap Some e)
  | inr m ↦ let r = place_of xs x m in (suc r.0, r.1)
]

-- each place within a list has a thing
pub at_place : {X : Type 0} (xs : List X) (i : ℕ) → i < length xs → (x : X) × (slice_get xs i ≡ Some x)
at_place [] i h = absurd (omega (arith, h))
at_place (x ∷ xs) zero h = (x, refl)
at_place (x ∷ xs) (suc i) h = at_place xs i (omega (arith, h))

pub slice_get-none : {X : Type 0} (xs : List X) (i : ℕ) → slice_get xs i ≡ None → length xs ≤ i
slice_get-none [] i e = omega arith
slice_get-none (x ∷ xs) zero e = absurd cc
slice_get-none (x ∷ xs) (suc i) e = let rest = slice_get-none xs i e in omega (arith, rest)

pub same_entry : {X : Type 0} {x y : X} {o : Option X} → o ≡ Some x → o ≡ Some y → x ≡ y
same_entry {x = x} e f = ap (λ o. unwrap_or o x) (sym e ∙ f)

-- lists of one length with the same things at their places
pub by_places : {X : Type 0} (xs ys : List X) → length xs ≡ length ys →
    ((i : ℕ) (x : X) → slice_get xs i ≡ Some x → slice_get ys i ≡ Some x) → xs ≡ ys
by_places [] [] e same = refl
by_places [] (y ∷ ys) e same = absurd (omega (arith, e))
by_places (x ∷ xs) [] e same = absurd (omega (arith, e))
by_places (x ∷ xs) (y ∷ ys) e same =
    let tail : length xs ≡ length ys = omega (arith, e) in
    ap (λ z. z ∷ xs) (sym (same_Some y x (same 0 x refl))) ∙
    ap (λ l. y ∷ l) (by_places xs ys tail (λ i z h. same (suc i) z h))

-- ---- joined lists
pub slice_get-left : {X : Type 0} (xs ys : List X) (i : ℕ) → i < length xs → slice_get (xs ++ ys) i ≡ slice_get xs i
slice_get-left [] ys i h = absurd (omega arith)
slice_get-left (x ∷ xs) ys zero h = refl
slice_get-left (x ∷ xs) ys (suc i) h = slice_get-left xs ys i (omega arith)

pub slice_get-right : {X : Type 0} (xs ys : List X) (i : ℕ) → slice_get (xs ++ ys) (length xs + i) ≡ slice_get ys i
slice_get-right [] ys i = (let e : 0 + i ≡ i = omega arith in ap (slice_get ys) e)
slice_get-right (x ∷ xs) ys i =
    let e : length (x ∷ xs) + i ≡ suc (length xs + i) = omega arith in
    ap (slice_get (x ∷ (xs ++ ys))) e ∙ slice_get-right xs ys i

pub slice_get-joint : {X : Type 0} (xs ys : List X) (y : X) → slice_get (xs ++ y ∷ ys) (length xs) ≡ Some y
slice_get-joint [] ys y = refl
slice_get-joint (x ∷ xs) ys y = slice_get-joint xs ys y

pub slice_get-last : {X : Type 0} (xs : List X) (x : X) → slice_get (xs ++ x ∷ []) (length xs) ≡ Some x
slice_get-last xs x = slice_get-joint xs [] x

pub slice_get-push : {X : Type 0} (xs : List X) (x k : X) (i : ℕ) → slice_get (xs ++ x ∷ []) i ≡ Some k →
    (slice_get xs i ≡ Some k) ⊎ ((i ≡ length xs) × (x ≡ k))
slice_get-push [] x k zero e = inr (refl, cc)
slice_get-push [] x k (suc i) e = absurd cc
slice_get-push (y ∷ xs) x k zero e = inl e
slice_get-push (y ∷ xs) x k (suc i) e =
    elim (slice_get-push xs x k i e) [ inl h ↦ inl h | inr h ↦ inr (ap suc h.0, h.1) ]

-- what stands at a place stays there when more is added behind
pub slice_get-kept : {X : Type 0} (xs ys : List X) (i : ℕ) (k : X) → slice_get xs i ≡ Some k →
    slice_get (xs ++ ys) i ≡ Some k
slice_get-kept xs ys i k e = slice_get-left xs ys i (slice_get_within xs i k e) ∙ e

-- ---- reads after writes
pub slice_get-set : {X : Type 0} (xs : List X) (i : ℕ) (a b : X) → slice_get xs i ≡ Some b →
    slice_get (set xs i a) i ≡ Some a
slice_get-set [] i a b h = cc
slice_get-set (x ∷ xs) zero a b h = refl
slice_get-set (x ∷ xs) (suc i) a b h = slice_get-set xs i a b h

pub slice_get-set_same : {X : Type 0} (xs : List X) (i j : ℕ) (a b : X) → slice_get xs i ≡ Some b → i ≡ j →
    slice_get (set xs i a) j ≡ Some a
slice_get-set_same xs i j a b h e = subst (λ k. slice_get (set xs i a) k ≡ Some a) e (slice_get-set xs i a b h)

pub slice_get-set-other : {X : Type 0} (xs : List X) (i j : ℕ) (a : X) → (i ≡ j → ⊥) →
    slice_get (set xs i a) j ≡ slice_get xs j
slice_get-set-other [] i j a h = refl
slice_get-set-other (x ∷ xs) zero zero a h = absurd (h refl)
slice_get-set-other (x ∷ xs) zero (suc j) a h = refl
slice_get-set-other (x ∷ xs) (suc i) zero a h = refl
slice_get-set-other (x ∷ xs) (suc i) (suc j) a h = slice_get-set-other xs i j a (λ e. h (ap suc e))

-- ---- a place counted from the end
pub slice_get-reverse : {X : Type 0} (xs : List X) (i : ℕ) → i < length xs →
    slice_get (reverse xs) i ≡ slice_get xs (length xs - suc i)
slice_get-reverse [] i h = absurd (omega (arith, h))
slice_get-reverse (x ∷ xs) i h =
    let long = length-reverse (x ∷ xs) in
    let within : i < length (reverse (x ∷ xs)) = omega (arith, long, h) in
    let same : length (x ∷ xs) - 1 - i ≡ length (x ∷ xs) - suc i = omega arith in
    slice_get-get_or (reverse (x ∷ xs)) i x within
    ∙ ap Some (get_or-reverse (x ∷ xs) i x h ∙ ap (λ k. get_or (x ∷ xs) k x) same)
    ∙ sym (slice_get-get_or (x ∷ xs) (length (x ∷ xs) - suc i) x (omega (arith, h)))

-- ---- mapped lists

-- what a mapped list has at a place, where the list has a thing or the default there
pub map-at : {X Y : Type 0} (f : X → Y) (xs : List X) (i : ℕ) (d : X) (y : Y) → slice_get (map f xs) i ≡ Some y →
    f (unwrap_or (slice_get xs i) d) ≡ y
map-at f [] i d y e = absurd cc
map-at f (x ∷ xs) zero d y e = same_Some (f x) y e
map-at f (x ∷ xs) (suc i) d y e = map-at f xs i d y e

pub map-place : {X Y : Type 0} (f : X → Y) (xs : List X) (i : ℕ) (x : X) → i < length xs → x ≡ slice_index_or xs i x →
    slice_get (map f xs) i ≡ Some (f x)
map-place f xs i x lt e = slice_get-map f xs i ∙ ap (option_map f) (slice_get-get_or xs i x lt ∙ ap Some (sym e))

-- ---- the first things alone
pub take-at : {X : Type 0} (xs : List X) (i : ℕ) (x : X) → slice_get xs i ≡ Some x →
    take (i + 1) xs ≡ take i xs ++ x ∷ []
take-at [] i x e = absurd cc
take-at (y ∷ xs) zero x e = ap (λ z. z ∷ []) (same_Some y x e)
take-at (y ∷ xs) (suc i) x e =
    let j : suc i + 1 ≡ suc (i + 1) = omega arith in
    ap (λ n. take n (y ∷ xs)) j ∙ ap (λ l. y ∷ l) (take-at xs i x e)

pub split-at : {X : Type 0} (xs : List X) (i : ℕ) (x : X) → slice_get xs i ≡ Some x →
    xs ≡ take i xs ++ x ∷ drop (i + 1) xs
split-at [] i x e = absurd cc
split-at (y ∷ xs) zero x e = ap (λ z. z ∷ xs) (same_Some y x e)
split-at (y ∷ xs) (suc i) x e =
    let j : suc i + 1 ≡ suc (i + 1) = omega arith in
    ap (λ l. y ∷ l) (split-at xs i x e) ∙ ap (λ n. y ∷ take i xs ++ x ∷ drop n (y ∷ xs)) (sym j)

pub take-map-all : {X Y : Type 0} (f : X → Y) (xs : List X) (i : ℕ) → length xs ≤ i → take i (map f xs) ≡ map f xs
take-map-all f xs i le = take_all i (map f xs) (let e = length-map xs f in omega (arith, e, le))

pub map-take : {X Y : Type 0} (f : X → Y) (m : ℕ) (xs : List X) → map f (take m xs) ≡ take m (map f xs)
map-take f zero xs = refl
map-take f (suc m) [] = refl
map-take f (suc m) (x ∷ xs) = ap (λ rest. f x ∷ rest) (map-take f m xs)

pub length-take : {X : Type 0} (m : ℕ) (xs : List X) → m ≤ length xs → length (take m xs) ≡ m
length-take zero xs h = refl
length-take (suc m) [] h = absurd (omega arith)
length-take (suc m) (x ∷ xs) h = ap suc (length-take m xs (omega arith))

pub taken-row : {X : Type 0} (xs : List X) (m i : ℕ) (x : X) → slice_get (take m xs) i ≡ Some x →
    (slice_get xs i ≡ Some x) × (i < m)
taken-row xs zero i x e = absurd cc
taken-row [] (suc m) i x e = absurd cc
taken-row (y ∷ xs) (suc m) zero x e = (e, omega arith)
taken-row (y ∷ xs) (suc m) (suc i) x e = let h = taken-row xs m i x e in (h.0, let lt = h.1 in omega (arith, lt))

pub row-taken : {X : Type 0} (xs : List X) (m i : ℕ) (x : X) → slice_get xs i ≡ Some x → i < m →
    slice_get (take m xs) i ≡ Some x
row-taken xs zero i x e lt = absurd (omega arith)
row-taken [] (suc m) i x e lt = absurd cc
row-taken (y ∷ xs) (suc m) zero x e lt = e
row-taken (y ∷ xs) (suc m) (suc i) x e lt = row-taken xs m i x e (omega arith)

-- ---- what a slice gives
pub given-item : {X : Type 0} (given xs : List X) (i : ℕ) (x : X) → given ≡ xs → true ≡ nat_lt i (length given) →
    x ≡ slice_index_or given i x → slice_get xs i ≡ Some x
given-item given xs i x e lt is =
    subst (λ ys. slice_get ys i ≡ Some x) e (slice_get-get_or given i x (ltb-true i (length given) (sym lt)) ∙
    ap Some (sym is))

pub given-none : {X : Type 0} (given xs : List X) (i : ℕ) → given ≡ xs → false ≡ nat_lt i (length given) →
    slice_get xs i ≡ None
given-none given xs i e past =
    subst (λ ys. slice_get ys i ≡ None) e (slice_get_past given i
    (let a = ltb-false i (length given) (sym past) in omega (arith, a)))
