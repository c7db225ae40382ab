-- Marks of numbered nodes, and which nodes reach a marked one.
use Rattle.std.specs.Prelude.{ℕ, Bool, false, List, IsTrue, slice_index_or}
use Rattle.graph_walks.specs.Walks.{Reaches}

-- whether a node is marked
abbrev pub is_marked : List Bool → ℕ → Bool
is_marked marks x = slice_index_or marks x false

-- a node reaches a marked one: itself where it is marked
abbrev pub ReachesMarked : (ℕ → List ℕ) → List Bool → ℕ → Type 0
ReachesMarked edges marks x = (y : ℕ) × Reaches edges x y × IsTrue (is_marked marks y)
