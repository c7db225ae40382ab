-- Which numbers are met on a walk below nodes, and what of them is gathered.
use Rattle.std.specs.Prelude.{◌≡◌, ◌⊎◌, ◌<◌, ℕ, List, [], ◌∷◌, ◌++◌, Contains, IsTrue}
use Rattle.lists.specs.Gathering.{Gathers}
use Rattle.orientation.specs.Kinds.{rank_of}
use Rattle.orientation.specs.Rules.{is_above}
use Rattle.graph_walks.specs.Walks.{Reaches}
use Rattle.shape_pool.specs.declared.node.NodeId.{NodeId}
use Rattle.shape_pool.specs.Rows.{Row, kind_at}
use Rattle.shape_pool.specs.Laws.{ids_used}
use Rattle.step_history.specs.declared.history.StepHistory.{StepHistory}
use Rattle.step_history.specs.History.{IsSupported}
use Rattle.step_history.specs.Numbered.{StandsBelowAt}

-- a number is among those met, or has come last
abbrev pub IsNoted : List ℕ → ℕ → List ℕ → Type 0
IsNoted old i new = (Contains old i × (new ≡ old)) ⊎ (new ≡ old ++ i ∷ [])

module _ (rows : List Row) where
  -- with each number those are met that its uses name
  abbrev pub IsClosed : List ℕ → Type 0
  IsClosed met = (i j : ℕ) → Contains met i → Contains (ids_used rows i) j → Contains met j

  -- after those met before come some that are reached from given numbers, and with them these are met, and all below
  -- each
  pub record Meets (from old new : List ℕ) : Type 0 where
    pub more : List ℕ
    pub grows : new ≡ old ++ more
    pub reached : (i : ℕ) → Contains more i → (j : ℕ) × Contains from j × Reaches (ids_used rows) j i
    pub closed : IsClosed new
    pub all : (j : ℕ) → Contains from j → Contains new j

  -- a pair whose first number is one of the input's, of a kind that histories support
  abbrev pub IsKept : List ℕ → NodeId × NodeId → NodeId × NodeId → Type 0
  IsKept input p y = (p ≡ y) × IsSupported (kind_at rows p.0.0) × Contains input p.0.0

  -- a number of which histories speak that is first in no pair, given the first ones, and isn't one of the output's
  abbrev pub IsLeftOut : List ℕ → List ℕ → ℕ → Type 0
  IsLeftOut output firsts i = IsSupported (kind_at rows i) × (Contains firsts i → ⊥) × (Contains output i → ⊥)

  abbrev pub IsLost : List ℕ → List ℕ → ℕ → NodeId → Type 0
  IsLost output firsts i y = (i ≡ y.0) × IsLeftOut output firsts i

  -- a number of a lower kind that is new, given the new ones
  pub record CameNew (fresh : List ℕ) (t s : ℕ) : Type 0 where
    pub supported : IsSupported (kind_at rows s)
    pub lower : rank_of (kind_at rows s) < rank_of (kind_at rows t)
    pub fresh_one : Contains fresh s

  -- what is told of such a number by tests
  abbrev pub IsNewOf : List ℕ → ℕ → ℕ → Type 0
  IsNewOf fresh t s =
      IsSupported (kind_at rows s) × IsTrue (is_above (kind_at rows s) (kind_at rows t)) × Contains fresh s

  -- a pair of a number and one that came new of it
  abbrev pub IsPair : List ℕ → NodeId → ℕ → NodeId × NodeId → Type 0
  IsPair fresh from i y = (from ≡ y.0) × (i ≡ y.1.0) × CameNew fresh from.0 y.1.0

  -- a pair of a number and one of these that came new
  abbrev pub IsPicked : List ℕ → NodeId → List ℕ → NodeId × NodeId → Type 0
  IsPicked fresh from ids y = (from ≡ y.0) × Contains ids y.1.0 × CameNew fresh from.0 y.1.0

  -- what came new of a number of the input, below what took its place
  abbrev pub IsMadeOf : List ℕ → List ℕ → NodeId × NodeId → NodeId × NodeId → Type 0
  IsMadeOf input fresh p y =
      (p.0 ≡ y.0) × IsSupported (kind_at rows p.0.0) × Contains input p.0.0 × StandsBelowAt rows y.1.0 p.1.0 ×
      CameNew fresh p.0.0 y.1.0

  -- A walk below what took the place of a number: with each number that is met all below it is met, and those that came
  -- new are listed.
  pub record IsWalk (fresh : List ℕ) (from : NodeId) (met : List ℕ) (out : List (NodeId × NodeId)) : Type 0 where
    pub closed : IsClosed met
    pub listed : (s : NodeId) → Contains met s.0 → CameNew fresh from.0 s.0 → Contains out (from, s)

-- the first number of a pair, and its second where the first isn't one of the input's
abbrev pub IsFirst : NodeId × NodeId → ℕ → Type 0
IsFirst p i = p.0.0 ≡ i

abbrev pub IsFresh : List ℕ → NodeId × NodeId → ℕ → Type 0
IsFresh input p i = (p.1.0 ≡ i) × (Contains input p.0.0 → ⊥)

-- what the pairs of a history are read off from, given the numbers of the input
pub record IsReadOff (rows : List Row) (input : List ℕ) (imaged replacing : List (NodeId × NodeId))
    (h : StepHistory) : Type 0 where
  pub fresh : List ℕ
  pub keeps : Gathers (IsKept rows input) imaged h.images
  pub news : Gathers (IsFresh input) imaged fresh
  pub mades : Gathers (IsMadeOf rows input fresh) replacing h.generated
