-- One thing more of a list that is gone through.
use Rattle.std.proofs.Common.{◌≡◌, ◌<◌, ◌+◌, ℕ, zero, suc, List, [], ◌∷◌, All, length, take, arith, subst, slice_index_or}

all-none : {X : Type 0} (P : X → Type 0) → All P []
all-none P i d lt = absurd (omega arith)

all-from : {X : Type 0} (P : X → Type 0) (x : X) (xs : List X) → P x → All P xs → All P (x ∷ xs)
all-from P x xs h k zero d lt = h
all-from P x xs h k (suc i) d lt = k i d (omega arith)

all-rest : {X : Type 0} (P : X → Type 0) (x : X) (xs : List X) → All P (x ∷ xs) → All P xs
all-rest P x xs h k d lt = h (suc k) d (omega arith)

more : {X : Type 0} (P : X → Type 0) (xs : List X) (i : ℕ) (d : X) → i < length xs → All P (take i xs) →
    P (slice_index_or xs i d) → All P (take (suc i) xs)
more P [] i d lt h p = absurd (omega arith)
more P (y ∷ xs) zero d lt h p = all-from P y [] p (all-none P)
more P (y ∷ xs) (suc i) d lt h p =
    all-from P y (take (suc i) xs) (h zero y (omega arith))
    (more P xs i d (omega arith) (all-rest P y (take i xs) h) p)

add-one : (i : ℕ) → suc i ≡ i + 1
add-one i = omega arith

pub all-more : {X : Type 0} (P : X → Type 0) (xs : List X) (i : ℕ) (d : X) → i < length xs → All P (take i xs) →
    P (slice_index_or xs i d) → All P (take (i + 1) xs)
all-more P xs i d lt h p = subst (λ (n : ℕ). All P (take n xs)) (add-one i) (more P xs i d lt h p)
