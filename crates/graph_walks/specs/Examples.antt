-- Orders, cycles and ranks in small graphs.
use Rattle.std.specs.Prelude.{ℕ, List, [], ◌∷◌, reverse}
use Rattle.graph_walks.specs.Graph.{ends_of}
use Rattle.graph_walks.specs.Search.{IsOrderFrom}
use Rattle.graph_walks.specs.Walks.{HasCycle, IsCycle, IsFirstCycle, IsFinishOrder, IsRank}

-- node 0 leads to 1, and nothing leads to 2
abbrev pub one_apart : List (List ℕ)
one_apart = (1 ∷ []) ∷ [] ∷ [] ∷ []

-- an order holds all that the root reaches and nothing else, each node once and after the ends of its edges
pub record OrdersComeOut : Type 0 where
  pub order : IsOrderFrom one_apart 0 (1 ∷ 0 ∷ [])
  pub node_missing : IsOrderFrom one_apart 0 [] → ⊥
  pub before_its_end : IsOrderFrom one_apart 0 (0 ∷ 1 ∷ []) → ⊥
  pub twice : IsOrderFrom one_apart 0 (1 ∷ 1 ∷ 0 ∷ []) → ⊥
  -- this one is an order of finishing
  pub finishes : IsFinishOrder (ends_of one_apart) (reverse (2 ∷ 1 ∷ 0 ∷ []))
  pub node_unreached : IsOrderFrom one_apart 0 (2 ∷ 1 ∷ 0 ∷ []) → ⊥

-- node 0 leads nowhere, and 1 to itself
abbrev pub loop_apart : List (List ℕ)
loop_apart = [] ∷ (1 ∷ []) ∷ []

-- node 0 leads to 2 and then to 1, and each of these to itself
abbrev pub two_loops : List (List ℕ)
two_loops = (2 ∷ 1 ∷ []) ∷ (1 ∷ []) ∷ (2 ∷ []) ∷ []

-- a cycle counts where the root reaches it, and the first one is met first in the order of the edges
pub record CyclesComeOut : Type 0 where
  pub unreached : HasCycle (ends_of loop_apart) 0 → ⊥
  pub reached : IsFirstCycle (ends_of loop_apart) 1 (1 ∷ 1 ∷ [])
  pub first : IsFirstCycle (ends_of two_loops) 0 (2 ∷ 2 ∷ [])
  pub second : IsCycle (ends_of two_loops) 0 (1 ∷ 1 ∷ [])
  pub second_is_not_first : IsFirstCycle (ends_of two_loops) 0 (1 ∷ 1 ∷ []) → ⊥

-- node 0 leads to 2, and by 1 to 2 as well
abbrev pub way_round : List (List ℕ)
way_round = (2 ∷ 1 ∷ []) ∷ (2 ∷ []) ∷ [] ∷ []

-- the longest walk counts, by its edges
pub record RanksComeOut : Type 0 where
  pub last : IsRank (ends_of way_round) 2 0
  pub middle : IsRank (ends_of way_round) 1 1
  pub first : IsRank (ends_of way_round) 0 2
  pub not_the_shortest : IsRank (ends_of way_round) 0 1 → ⊥
