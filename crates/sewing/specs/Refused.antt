-- Why nodes aren't merged or sewn.
use Rattle.std.specs.Prelude.{◌≡◌, ◌≢◌, ℕ, ◌<◌, List, All, length, take, slice_get, Some}
use Rattle.orientation.specs.declared.kind.Kind.TheVariants.{Ed}
use Rattle.shape_pool.specs.declared.node.NodeId.{NodeId}
use Rattle.shape_pool.specs.Rows.{Row, kind_at}
use Rattle.sewing.specs.declared.member.Member.{Member}
use Rattle.sewing.specs.declared.fault.SewFault.{SewFault}
use Rattle.sewing.specs.declared.fault.SewFault.TheVariants.{KindMismatch, NotEdge, EndsDiffer, NoMemory}
use Rattle.sewing.specs.Asked.{HaveSameEnds}

-- the first thing of a list that isn't as it should be, at a place, is the one that a fact tells of
pub record IsFirstAmiss {X : Type 0} (IsRight Amiss : X → Type 0) (xs : List X) (place : ℕ) : Type 0 where
  pub before : All IsRight (take place xs)
  pub within : place < length xs
  pub is_amiss : (x : X) → slice_get xs place ≡ Some x → Amiss x

abbrev pub IsEdge : List Row → NodeId → Type 0
IsEdge rows m = kind_at rows m.0 ≡ Ed

module _ (rows : List Row) (first : NodeId) where
  -- ---- merging
  -- a member has the kind of the first one, or hasn't
  abbrev pub HasItsKind : NodeId → Type 0
  HasItsKind m = kind_at rows m.0 ≡ kind_at rows first.0

  abbrev pub HasOtherKind : NodeId → Type 0
  HasOtherKind m = kind_at rows m.0 ≢ kind_at rows first.0

  -- a fault of merging: that of the first member of another kind
  abbrev pub IsMergeFault : List NodeId → SewFault → Type 0
  IsMergeFault members (KindMismatch place) = IsFirstAmiss HasItsKind HasOtherKind members place
  IsMergeFault members NotEdge = ⊥
  IsMergeFault members (EndsDiffer place) = ⊥
  IsMergeFault members NoMemory = Unit {0}

  -- ---- sewing
  -- a member can be sewn to the first one: it is an edge, and has its ends
  pub record CanBeSewn (m : Member) : Type 0 where
    pub edge : IsEdge rows m.id
    pub ends : HaveSameEnds rows first.0 m.turn m.id.0

  abbrev pub IsNoEdge : Member → Type 0
  IsNoEdge m = kind_at rows m.id.0 ≢ Ed

  pub record HasOtherEnds (m : Member) : Type 0 where
    pub edge : IsEdge rows m.id
    pub ends : HaveSameEnds rows first.0 m.turn m.id.0 → ⊥

  -- a fault of sewing: the first one is no edge; or else that of the first member that can't be sewn to it, its kind
  -- before its ends
  abbrev pub IsSewFault : List Member → SewFault → Type 0
  IsSewFault members NotEdge = kind_at rows first.0 ≢ Ed
  IsSewFault members (KindMismatch place) = IsEdge rows first × IsFirstAmiss CanBeSewn IsNoEdge members place
  IsSewFault members (EndsDiffer place) = IsEdge rows first × IsFirstAmiss CanBeSewn HasOtherEnds members place
  IsSewFault members NoMemory = Unit {0}
