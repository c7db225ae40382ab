-- Numbers in an order, and the place of each.
use Rattle.std.specs.Prelude.{◌≡◌, ℕ, ◌+◌, ◌-◌, ◌<◌, ◌≤◌, List, [], ◌∷◌, ◌++◌, Some, map, length, slice_get, slice_index}
use Rattle.expansion_laws.specs.Expansion.{IsNumberOf}
use Rattle.shape_pool.specs.declared.node.NodeId.{NodeId}
use Rattle.shape_pool.specs.Rows.{most_nodes}

abbrev pub numbers_of : List NodeId → List ℕ
numbers_of ids = map (λ (id : NodeId). id.0) ids

-- numbers in their order, and how many numbers there can be
pub record Listed : Type 0 where
  pub numbers : List ℕ
  pub room : ℕ

-- with one number more
abbrev pub with_number : Listed → ℕ → Listed
with_number l number = record { numbers = l.numbers ++ number ∷ []; room = l.room }

-- Different numbers, and for each number its place among them, counted from 1, or 0 for one that isn't there.
pub record ArePlaced (numbers places : List ℕ) : Type 0 where
  pub few : length places ≤ most_nodes
  pub named : (i : ℕ) → i < length numbers → slice_index numbers i < length places
  pub placed : (i : ℕ) → i < length numbers → slice_index places (slice_index numbers i) ≡ i + 1
  pub within : (k : ℕ) → k < length places → slice_index places k ≤ length numbers
  pub found : (k : ℕ) → k < length places → 0 < slice_index places k → slice_index numbers (slice_index places k - 1) ≡ k

-- the number stands there, and n is its place counted from the last
pub record IsNumbered (numbers : List ℕ) (number n : ℕ) : Type 0 where
  pub within : IsNumberOf (length numbers) n
  pub at : slice_get numbers (length numbers - n) ≡ Some number
