-- The search of a step's graph ends: with the first cycle, or with none.
use Rattle.std.specs.Prelude.{◌⊎◌, ◌↔◌, ℕ, List}
use Rattle.expansion_laws.specs.Trees.{Tree}
use Rattle.expansion_laws.specs.Steps.{Step}
use Rattle.expansion_laws.specs.Graph.{HasCycle, IsRank, IsFirstCycle}

-- from each tree there is a first cycle, or no cycle and a rank
abbrev pub CycleOrRank : Step → Type 0
CycleOrRank s = (root : Tree) →
    ((walk : List Tree) × IsFirstCycle s root walk) ⊎ ((HasCycle s root → ⊥) × ((n : ℕ) × IsRank s root n))

-- so there is a first cycle exactly where there is a cycle, and a rank exactly where there is none
pub record CyclesAreFound (s : Step) : Type 0 where
  pub first : (root : Tree) → ((walk : List Tree) × IsFirstCycle s root walk) ↔ HasCycle s root
  pub rank : (root : Tree) → ((n : ℕ) × IsRank s root n) ↔ (HasCycle s root → ⊥)
