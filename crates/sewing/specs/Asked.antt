-- What is asked where nodes are merged or sewn: that each be replaced by the first one.
use Rattle.std.specs.Prelude.{ℕ, ◌&&◌, nat_eq, Bool, if◌then◌else◌, List, [], ◌∷◌, map, None, IsPermutation}
use Rattle.std.specs.List.{flat_map}
use Rattle.orientation.specs.declared.turn.Turn.{Turn}
use Rattle.orientation.specs.declared.turn.Turn.TheVariants.{Forward}
use Rattle.orientation.specs.Turns.{composed, turn_eq}
use Rattle.shape_pool.specs.declared.node.NodeId.{NodeId}
use Rattle.shape_pool.specs.declared.node.UseOf.{UseOf}
use Rattle.shape_pool.specs.Rows.{Row, uses_at}
use Rattle.requests.specs.declared.request.Request.{Request}
use Rattle.requests.specs.declared.request.Act.TheVariants.{Replace}
use Rattle.sewing.specs.declared.member.Member.{Member}

module _ (first : NodeId) where
  -- a use of the first one under a turn, at the place of what it replaces
  abbrev pub use_of_first : Turn → UseOf
  use_of_first turn = record { turn = turn; place = record { 0 = 0 }; id = first }

  -- the unconditional request that a node be replaced by such a use
  abbrev pub exchange : Turn → NodeId → Request
  exchange turn source = record { source = source; place = None; turn = None; act = Replace (use_of_first turn) }

  -- whether a node under a turn is the first one itself
  abbrev pub is_first : Turn → NodeId → Bool
  is_first turn source = turn_eq turn Forward && nat_eq source.0 first.0

  -- what is asked of a node that is to be the first one under a turn: nothing where it is so already
  abbrev pub asked_of : Turn → NodeId → List Request
  asked_of turn source = if is_first turn source then [] else exchange turn source ∷ []

  -- what merging asks, and what sewing asks
  abbrev pub merging : List NodeId → List Request
  merging members = flat_map (asked_of Forward) members

  abbrev pub sewing : List Member → List Request
  sewing members = flat_map (λ (m : Member). asked_of m.turn m.id) members

-- a use under a sign
abbrev pub turned : Turn → UseOf → UseOf
turned sign u = record { turn = composed sign u.turn; place = u.place; id = u.id }

-- the ends of an edge under a sign: its uses, each turned by the sign
abbrev pub ends_at : List Row → Turn → ℕ → List UseOf
ends_at rows sign i = map (turned sign) (uses_at rows i)

-- the second edge under the sign has the ends of the first one, with repeats and in whatever order
abbrev pub HaveSameEnds : List Row → ℕ → Turn → ℕ → Type 0
HaveSameEnds rows first sign second = IsPermutation (ends_at rows Forward first) (ends_at rows sign second)
