-- Ranks of numbered nodes, each listed at the node's number.
use Rattle.std.specs.Prelude.{◌≡◌, ℕ, List, Contains, slice_index_or}
use Rattle.graph_walks.specs.Graph.{ends_of}
use Rattle.graph_walks.specs.Walks.{IsRank}

-- each node of the order has its rank at its number
abbrev pub HaveRanks : List (List ℕ) → List ℕ → List ℕ → Type 0
HaveRanks graph order ranks = (x : ℕ) → Contains order x → IsRank (ends_of graph) x (slice_index_or ranks x 0)

-- at any other number stands 0
abbrev pub AreZeroBeside : List ℕ → List ℕ → Type 0
AreZeroBeside order ranks = (x : ℕ) → (Contains order x → ⊥) → slice_index_or ranks x 0 ≡ 0
