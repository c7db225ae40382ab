-- What is promised of keys and of reach: a tree with a rank has one key at each context, and whether a place or a turn
-- is reached goes by the ends of edges.
use Rattle.std.specs.Prelude.{◌≡◌, ◌⊎◌, ◌↔◌, ℕ, true, Contains}
use Rattle.expansion_laws.specs.Trees.{Tree, Use}
use Rattle.expansion_laws.specs.Contexts.{Context}
use Rattle.expansion_laws.specs.Steps.{Step}
use Rattle.expansion_laws.specs.Visits.{IsVisit}
use Rattle.expansion_laws.specs.Graph.{edges, IsRank}
use Rattle.expansion_laws.specs.Keys.{asks_place, asks_turn, ReachesPlace, ReachesTurn, Key, IsKey}

-- a tree with a rank has one key at each context
abbrev pub RankedTreesHaveOneKey : Step → Type 0
RankedTreesHaveOneKey s = (n : ℕ) (x : Tree) (here : Context) → IsRank s x n →
    (k : Key) × IsKey s x here k × ((l : Key) → IsKey s x here l → l ≡ k)

-- where the root's tree has a rank, each visit has a key
abbrev pub VisitsHaveKeys : Step → Type 0
VisitsHaveKeys s = (n : ℕ) (root : Use) (x : Tree) (here : Context) → IsRank s root.tree n → IsVisit s root x here →
    (k : Key) × IsKey s x here k

-- a place or a turn is reached where the tree asks it, or an end of one of its edges reaches it
pub record ReachGoesByEnds (s : Step) : Type 0 where
  pub place : (x : Tree) →
      ReachesPlace s x ↔ ((asks_place s x ≡ true) ⊎ ((y : Tree) × Contains (edges s x) y × ReachesPlace s y))
  pub turn : (x : Tree) →
      ReachesTurn s x ↔ ((asks_turn s x ≡ true) ⊎ ((y : Tree) × Contains (edges s x) y × ReachesTurn s y))
