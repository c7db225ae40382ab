-- Draws of a linear congruential generator.
use Rattle.std.specs.Prelude.{◌≡◌, ℕ, zero, suc, ◌+◌, ◌-◌, ◌*◌, ◌/◌, ◌%◌, ◌^◌}

-- the state that a draw makes of a state
abbrev pub state_after : ℕ → ℕ
state_after x = (x * 6364136223846793005 + 1442695040888963407) % 2 ^ 64

-- the state that so many draws make of a state
unfoldable pub state_at : ℕ → ℕ → ℕ
state_at x zero = x
state_at x (suc n) = state_after (state_at x n)

-- the draw from a state after so many others: the state that it makes, divided by 2^33
abbrev pub draw : ℕ → ℕ → ℕ
draw x n = state_at x (suc n) / 2 ^ 33

-- ---- the first draws from the seed 7, and a later one from the greatest seed
pub record DrawsComeOut : Type 0 where
  pub first : draw 7 0 ≡ 1059165278
  pub second : draw 7 1 ≡ 2052263231
  pub third : draw 7 2 ≡ 1946856753
  pub later : draw (2 ^ 64 - 1) 5 ≡ 1334033987
