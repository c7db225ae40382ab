-- Facts of each thing of a list.
use Rattle.std.proofs.Common.{subst, inl, inr}
use Rattle.std.specs.Prelude.{All, List, [], ◌∷◌, ◌++◌, map, Contains}
use Rattle.std.specs.List.{AllByRecursion, flat_map}
use Rattle.std.proofs.lemmas.List.Elements.{All-from_recursion}
use Rattle.lists.proofs.Members.{Contains-here, Contains-there, Contains-cases, Contains-none}

-- a fact of all members is a fact of each thing, and the other way round
pub each-member : {X : Type 0} (P : X → Type 0) (xs : List X) → ((x : X) → Contains xs x → P x) → AllByRecursion P xs
each-member P [] h = tt
each-member P (x ∷ xs) h = (h x (Contains-here x xs), each-member P xs (λ y m. h y (Contains-there x y xs m)))

pub each-contains : {X : Type 0} (P : X → Type 0) (xs : List X) (x : X) → AllByRecursion P xs → Contains xs x → P x
each-contains P [] x h m = absurd (Contains-none x m)
each-contains P (y ∷ xs) x h m =
    elim (Contains-cases y x xs m) [ inl e ↦ subst P e h.0 | inr k ↦ each-contains P xs x h.1 k ]

pub All-from_members : {X : Type 0} (P : X → Type 0) (xs : List X) → ((x : X) → Contains xs x → P x) → All P xs
All-from_members P xs h = All-from_recursion P xs (each-member P xs h)

pub each-weaker : {X : Type 0} (P Q : X → Type 0) → ((x : X) → P x → Q x) → (xs : List X) → AllByRecursion P xs →
    AllByRecursion Q xs
each-weaker P Q f [] h = tt
each-weaker P Q f (x ∷ xs) h = (f x h.0, each-weaker P Q f xs h.1)

pub each-map : {X Y : Type 0} (P : Y → Type 0) (f : X → Y) (xs : List X) → ((x : X) → Contains xs x → P (f x)) →
    AllByRecursion P (map f xs)
each-map P f [] h = tt
each-map P f (x ∷ xs) h = (h x (Contains-here x xs), each-map P f xs (λ y m. h y (Contains-there x y xs m)))

-- ---- joined lists
pub each-append : {X : Type 0} (P : X → Type 0) (a b : List X) → AllByRecursion P a → AllByRecursion P b →
    AllByRecursion P (a ++ b)
each-append P [] b h k = k
each-append P (x ∷ a) b h k = (h.0, each-append P a b h.1 k)

pub each-left : {X : Type 0} (P : X → Type 0) (a b : List X) → AllByRecursion P (a ++ b) → AllByRecursion P a
each-left P [] b h = tt
each-left P (x ∷ a) b h = (h.0, each-left P a b h.1)

pub each-right : {X : Type 0} (P : X → Type 0) (a b : List X) → AllByRecursion P (a ++ b) → AllByRecursion P b
each-right P [] b h = h
each-right P (x ∷ a) b h = each-right P a b h.1

-- ---- joined images
pub each-flat_map : {X Y : Type 0} (Q : X → Type 0) (P : Y → Type 0) (f : X → List Y) →
    ((x : X) → Q x → AllByRecursion P (f x)) →
    (xs : List X) → AllByRecursion Q xs → AllByRecursion P (flat_map f xs)
each-flat_map Q P f h [] are = tt
each-flat_map Q P f h (x ∷ xs) are = each-append P (f x) (flat_map f xs) (h x are.0) (each-flat_map Q P f h xs are.1)

pub each-of : {X Y : Type 0} (P : Y → Type 0) (f : X → List Y) (xs : List X) → AllByRecursion P (flat_map f xs) →
    AllByRecursion (λ x. AllByRecursion P (f x)) xs
each-of P f [] h = tt
each-of P f (x ∷ xs) h = (each-left P (f x) (flat_map f xs) h, each-of P f xs (each-right P (f x) (flat_map f xs) h))
