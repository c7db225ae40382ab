-- Proofs by cases.
use Rattle.std.proofs.Common.{◌≡◌, ℕ, zero, suc, Bool, true, false, ◌||◌, refl, ap, arith}

-- by the two values of a test
abbrev pub by_test : {P : Type 0} (b : Bool) → (b ≡ true → P) → (b ≡ false → P) → P
by_test true f g = f refl
by_test false f g = g refl

-- the number is this one or not
pub same_or_not : {P : Type 0} (i j : ℕ) → (i ≡ j → P) → ((i ≡ j → ⊥) → P) → P
same_or_not zero zero f g = f refl
same_or_not zero (suc j) f g = g (λ e. omega (arith, e))
same_or_not (suc i) zero f g = g (λ e. omega (arith, e))
same_or_not (suc i) (suc j) f g = same_or_not i j (λ e. f (ap suc e)) (λ h. g (λ e. h (omega (arith, e))))

pub or-second : (a b : Bool) → (a || b) ≡ true → a ≡ false → b ≡ true
or-second true b e f = absurd cc
or-second false b e f = e
