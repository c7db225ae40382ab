-- Lists of pairs put together.
use Rattle.std.specs.Prelude.{◌≡◌, ◌<◌, ◌≤◌, ◌↔◌, ◌⊎◌, ℕ, List, length, Contains, slice_index_or}
use Rattle.shape_pool.specs.declared.node.NodeId.{NodeId}

-- a number is paired with a middle one in the first list, and the middle one with another in the second
abbrev pub IsJoined : List (NodeId × NodeId) → List (NodeId × NodeId) → NodeId × NodeId → Type 0
IsJoined firsts seconds y = (m : NodeId) × Contains firsts (y.0, m) × Contains seconds (m, y.1)

-- the same where the first list has its pairs the other way round
abbrev pub IsFollowed : List (NodeId × NodeId) → List (NodeId × NodeId) → NodeId × NodeId → Type 0
IsFollowed firsts seconds y = (m : NodeId) × Contains firsts (m, y.0) × Contains seconds (m, y.1)

-- a pair of a number and one with which a middle one is paired
abbrev pub IsOnto : List (NodeId × NodeId) → NodeId → NodeId → NodeId × NodeId → Type 0
IsOnto seconds middle from y = (from ≡ y.0) × Contains seconds (middle, y.1)

-- a pair the other way round
abbrev pub IsFlipped : NodeId × NodeId → NodeId × NodeId → Type 0
IsFlipped p y = (p.1 ≡ y.0) × (p.0 ≡ y.1)

-- the pair at a place, if there is one, has a first that isn't below a number
abbrev pub IsHere : List (NodeId × NodeId) → ℕ → ℕ → Type 0
IsHere pairs n m = (d : NodeId × NodeId) → n < length pairs → m ≤ (slice_index_or pairs n d).0.0

-- a list has just the pairs that two lists make
abbrev pub Joins : List (NodeId × NodeId) → List (NodeId × NodeId) → List (NodeId × NodeId) → Type 0
Joins firsts seconds made = (y : NodeId × NodeId) → Contains made y ↔ IsJoined firsts seconds y

-- a list has just the pairs that are generated, given the images and the generated pairs of two histories
abbrev pub IsWhollyGenerated :
    List (NodeId × NodeId) → List (NodeId × NodeId) → List (NodeId × NodeId) → List (NodeId × NodeId) →
    List (NodeId × NodeId) → Type 0
IsWhollyGenerated images generated next_images next_generated made =
    (y : NodeId × NodeId) → Contains made y ↔
    (IsJoined images next_generated y ⊎ (IsJoined generated next_images y ⊎ IsJoined generated next_generated y))

-- so many pairs of a list have firsts below a number
abbrev pub AreBefore : List (NodeId × NodeId) → ℕ → ℕ → Type 0
AreBefore pairs n m = (i : ℕ) (d : NodeId × NodeId) → i < n → (slice_index_or pairs i d).0.0 < m
