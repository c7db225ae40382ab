-- A history by the numbers of a pool's nodes, and what it stands for among trees.
use Rattle.std.specs.Prelude.{◌≡◌, ◌↔◌, ◌<◌, ℕ, List, All, length, Contains}
use Rattle.std.specs.List.Sorted.{IsStrictlySortedBy}
use Rattle.std.specs.Ordering.{nat_cmp, ordering_then}
use Rattle.std.specs.declared.cmp.Ordering.{Ordering}
use Rattle.orientation.specs.declared.kind.Kind.{Kind}
use Rattle.orientation.specs.Kinds.{rank_of}
use Rattle.location_words.specs.declared.pair.Pair.{Pair}
use Rattle.graph_walks.specs.Walks.{Reaches}
use Rattle.expansion_laws.specs.Trees.{Tree, Use}
use Rattle.shape_pool.specs.declared.node.NodeId.{NodeId}
use Rattle.shape_pool.specs.Rows.{Row, kind_at, tree_at, HasPlaces}
use Rattle.shape_pool.specs.Laws.{TellsBelow, ids_used}
use Rattle.step_history.specs.declared.history.StepHistory.{StepHistory}
use Rattle.step_history.specs.History.{History, IsSupported, ListsPairs, ListsTrees}
use Rattle.step_history.specs.Changes.{Change, kind_in, Becomes, TakesPlace, history_by}

-- the numbers of a list are held, and so are those of pairs
abbrev pub AreHeld : List Row → List NodeId → Type 0
AreHeld rows ids = All (λ (i : NodeId). i.0 < length rows) ids

abbrev pub ArePairsHeld : List Row → List (NodeId × NodeId) → Type 0
ArePairsHeld rows pairs = All (λ (p : NodeId × NodeId). (p.0.0 < length rows) × (p.1.0 < length rows)) pairs

pub record IsHeld (rows : List Row) (h : StepHistory) : Type 0 where
  pub images : ArePairsHeld rows h.images
  pub generated : ArePairsHeld rows h.generated
  pub removed : AreHeld rows h.removed

-- the order of numbers, and of pairs by the first and then by the second
abbrev pub id_cmp : NodeId → NodeId → Ordering
id_cmp a b = nat_cmp a.0 b.0

abbrev pub pair_cmp : NodeId × NodeId → NodeId × NodeId → Ordering
pair_cmp p q = ordering_then (id_cmp p.0 q.0) (id_cmp p.1 q.1)

-- each list of a history ascends, so that it has nothing twice
pub record Ascends (h : StepHistory) : Type 0 where
  pub images : IsStrictlySortedBy pair_cmp h.images
  pub generated : IsStrictlySortedBy pair_cmp h.generated
  pub removed : IsStrictlySortedBy id_cmp h.removed

-- ---- by numbers
-- a number occurs in the tree of a root, and stands properly below another
abbrev pub OccursAt : List Row → ℕ → ℕ → Type 0
OccursAt rows root i = Reaches (ids_used rows) root i

abbrev pub StandsBelowAt : List Row → ℕ → ℕ → Type 0
StandsBelowAt rows i above = (u : ℕ) × Contains (ids_used rows above) u × OccursAt rows u i

-- the numbers of a first root that are first in no pair and don't occur in a last root
abbrev pub IsGoneAt : List Row → ℕ → ℕ → List (NodeId × NodeId) → NodeId → Type 0
IsGoneAt rows before after pairs t =
    IsSupported (kind_at rows t.0) × OccursAt rows before t.0 × ((s : NodeId) → Contains pairs (t, s) → ⊥) ×
    (OccursAt rows after t.0 → ⊥)

-- a list has just the numbers that occur in the tree of a root, and just those that are gone
abbrev pub AreBelow : List Row → ℕ → List ℕ → Type 0
AreBelow rows root met = (i : ℕ) → Contains met i ↔ OccursAt rows root i

abbrev pub AreGone : List Row → ℕ → ℕ → List (NodeId × NodeId) → List NodeId → Type 0
AreGone rows before after pairs ids = (t : NodeId) → Contains ids t ↔ IsGoneAt rows before after pairs t

module _ (rows : List Row) (before after : ℕ) (imaged replaced : List (NodeId × NodeId)) where
  -- the images of the input's numbers
  abbrev pub IsImageAt : NodeId → NodeId → Type 0
  IsImageAt t s = IsSupported (kind_at rows t.0) × OccursAt rows before t.0 × Contains imaged (t, s)

  -- what came of a replaced number of the input
  abbrev pub IsGeneratedAt : NodeId → NodeId → Type 0
  IsGeneratedAt t s =
      (made : NodeId) × (q : NodeId) × IsSupported (kind_at rows t.0) × OccursAt rows before t.0 ×
      Contains replaced (t, made) ×
      IsSupported (kind_at rows s.0) × (rank_of (kind_at rows s.0) < rank_of (kind_at rows t.0)) ×
      StandsBelowAt rows s.0 made.0 ×
      (OccursAt rows before q.0 → ⊥) × Contains imaged (q, s)

  -- the lists of a history have just these
  pub record IsStepAt (h : StepHistory) : Type 0 where
    pub images : (t s : NodeId) → Contains h.images (t, s) ↔ IsImageAt t s
    pub generated : (t s : NodeId) → Contains h.generated (t, s) ↔ IsGeneratedAt t s
    pub removed : AreGone rows before after h.images h.removed

-- ---- among trees
-- A reading gives trees their kinds, and the numbers below n words that differ. All words of uses are numbered below n.
pub record IsReading (rows : List Row) (kind_of : Tree → Kind) (word : ℕ → List Pair) (n : ℕ) : Type 0 where
  pub kinds : (i : ℕ) → i < length rows → kind_of (tree_at word rows i) ≡ kind_at rows i
  pub placed : HasPlaces rows n
  pub told : TellsBelow n word

-- the tree of a number
abbrev pub tree_by : (ℕ → List Pair) → List Row → NodeId → Tree
tree_by word rows i = tree_at word rows i.0

-- the lists of a history have just what a history relates
pub record Tells (tree : NodeId → Tree) (h : StepHistory) (told : History) : Type 0 where
  pub images : ListsPairs tree h.images told.images
  pub generated : ListsPairs tree h.generated told.generated
  pub removed : ListsTrees tree h.removed told.removed

-- Under each reading: where the lists have just the images of a change and what took the place of replaced trees, the
-- history is that of the change.
abbrev pub TellsStep : List Row → ℕ → ℕ → List (NodeId × NodeId) → List (NodeId × NodeId) → StepHistory → Type 0
TellsStep rows before after images replaced h =
    (c : Change) (first last : Use) (word : ℕ → List Pair) (n : ℕ) → IsReading rows (kind_in c) word n →
    first.tree ≡ tree_at word rows before → last.tree ≡ tree_at word rows after →
    ListsPairs (tree_by word rows) images (Becomes c first) →
    ListsPairs (tree_by word rows) replaced (TakesPlace c first) →
    Tells (tree_by word rows) h (history_by c first last)
