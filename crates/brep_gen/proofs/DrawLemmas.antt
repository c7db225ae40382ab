-- States of draws.
use Rattle.std.proofs.Common.{◌≡◌, ◌+◌, ◌*◌, ◌/◌, ◌%◌, refl, ap, sym, ◌∙◌, arith, ℕ, zero, suc}
use Rattle.std.proofs.Math.Nat.{add-mul-mod_self_left, mod-add-div}
use Rattle.brep_gen.specs.Draws.{draw, state_after, state_at}

exchanged : (a k b : ℕ) → (a + k) + b ≡ (a + b) + k
exchanged a k b = omega arith

-- a remainder within a remainder
pub mod_dropped : (n m k : ℕ) → (m % n + k) % n ≡ (m + k) % n
mod_dropped n m k =
    sym (add-mul-mod_self_left (m % n + k) n (m / n))
    ∙ ap (λ t. t % n) (exchanged (m % n) k (n * (m / n)) ∙ ap (λ t. t + k) (mod-add-div m n))

stepped : (m n : ℕ) → m + suc n ≡ suc (m + n)
stepped m n = omega arith

pub state_sum : (x m n : ℕ) → state_at x (m + n) ≡ state_at (state_at x m) n
unfolding state_at
state_sum x m zero = ap (state_at x) (omega arith)
state_sum x m (suc n) = ap (state_at x) (stepped m n) ∙ ap state_after (state_sum x m n)

pub one_draw : (x : ℕ) → state_at x 1 ≡ state_after x
unfolding state_at
one_draw x = refl

pub state_none : (x : ℕ) → x ≡ state_at x 0
unfolding state_at
state_none x = refl

-- the second draw, and the third
pub second_draw : (x : ℕ) → draw (state_after x) 0 ≡ draw x 1
unfolding state_at
second_draw x = refl

pub third_draw : (x : ℕ) → draw (state_after (state_after x)) 0 ≡ draw x 2
unfolding state_at
third_draw x = refl

pub three_states : (x : ℕ) → state_after (state_after (state_after x)) ≡ state_at x 3
unfolding state_at
three_states x = refl
