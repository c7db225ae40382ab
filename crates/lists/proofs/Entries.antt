-- What holds of each thing of a list, place by place.
use Rattle.std.proofs.Common.{◌≡◌, ◌<◌, ◌+◌, ℕ, zero, suc, List, map}
use Rattle.std.proofs.Common.{◌∷◌, [], All, length, take, arith, sym, ap, subst, slice_get, Some}
use Rattle.std.specs.Prelude.{unwrap_or}

pub slice_get-mapped : {X Y : Type 0} (f : X → Y) (xs : List X) (i : ℕ) (x : X) → slice_get xs i ≡ Some x →
    slice_get (map f xs) i ≡ Some (f x)
slice_get-mapped f [] i x e = absurd cc
slice_get-mapped f (y ∷ xs) zero x e = ap Some (ap f (ap (λ o. unwrap_or o y) e))
slice_get-mapped f (y ∷ xs) (suc i) x e = slice_get-mapped f xs i x e

pub All-from : {X : Type 0} (P : X → Type 0) (x : X) (xs : List X) → P x → All P xs → All P (x ∷ xs)
All-from P x xs h k zero d lt = h
All-from P x xs h k (suc i) d lt = k i d (omega arith)

pub All-none : {X : Type 0} (P : X → Type 0) → All P []
All-none P i d lt = absurd (omega arith)

pub All-rest : {X : Type 0} (P : X → Type 0) (x : X) (xs : List X) → All P (x ∷ xs) → All P xs
All-rest P x xs h k d lt = h (suc k) d (omega arith)

pub All-place : {X : Type 0} (P : X → Type 0) (xs : List X) (i : ℕ) (x : X) → All P xs → slice_get xs i ≡ Some x → P x
All-place P [] i x h e = absurd cc
All-place P (y ∷ xs) zero x h e = subst P (ap (λ o. unwrap_or o y) e) (h zero y (omega arith))
All-place P (y ∷ xs) (suc i) x h e = All-place P xs i x (All-rest P y xs h) e

-- one thing more
add-one : (i : ℕ) → suc i ≡ i + 1
add-one i = omega arith

more : {X : Type 0} (P : X → Type 0) (xs : List X) (i : ℕ) (x : X) → All P (take i xs) → slice_get xs i ≡ Some x → P x →
    All P (take (suc i) xs)
more P [] i x h e p = absurd cc
more P (y ∷ xs) zero x h e p = All-from P y [] (subst P (sym (ap (λ o. unwrap_or o y) e)) p) (All-none P)
more P (y ∷ xs) (suc i) x h e p =
    All-from P y (take (suc i) xs) (h zero y (omega arith)) (more P xs i x (All-rest P y (take i xs) h) e p)

pub All-more : {X : Type 0} (P : X → Type 0) (xs : List X) (i : ℕ) (x : X) → All P (take i xs) →
    slice_get xs i ≡ Some x → P x → All P (take (i + 1) xs)
All-more P xs i x h e p = subst (λ (n : ℕ). All P (take n xs)) (add-one i) (more P xs i x h e p)
