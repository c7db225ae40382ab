-- What numbers stand for: merging and sewing among trees.
use Rattle.std.specs.Prelude.{◌≡◌, ◌↔◌, ℕ, ◌<◌, ◌&&◌, if◌then◌else◌, List, [], ◌∷◌, All, map, length, None}
use Rattle.std.specs.List.{flat_map}
use Rattle.orientation.specs.declared.turn.Turn.{Turn}
use Rattle.orientation.specs.declared.turn.Turn.TheVariants.{Forward}
use Rattle.orientation.specs.Turns.{turn_eq}
use Rattle.location_words.specs.declared.pair.Pair.{Pair}
use Rattle.expansion_laws.specs.Trees.{Tree, a_single}
use Rattle.expansion_laws.specs.Equality.{tree_eq}
use Rattle.expansion_laws.specs.Ends.{HaveEqualEnds}
use Rattle.expansion_laws.specs.Requests.{Request, replace}
use Rattle.shape_pool.specs.declared.node.NodeId.{NodeId}
use Rattle.shape_pool.specs.Rows.{Row, tree_at, HasPlaces}
use Rattle.shape_pool.specs.Laws.{TellsBelow}
use Rattle.requests.specs.Readings.{requests_by}
use Rattle.sewing.specs.declared.member.Member.{Member}
use Rattle.sewing.specs.Asked.{merging, sewing, HaveSameEnds}

-- a tree under a turn
pub record TurnedTree : Type 0 where
  pub turn : Turn
  pub tree : Tree

module _ (first : Tree) where
  -- the unconditional request that a tree be replaced by a use of the first one under a turn, in its place
  abbrev pub exchange_of : TurnedTree → Request
  exchange_of m = record { source = m.tree; place = None; turn = None; act = replace (a_single m.turn [] first) }

  -- what is asked of a tree that is to be the first one under a turn: nothing where it is so already
  abbrev pub asked_of_tree : TurnedTree → List Request
  asked_of_tree m = if turn_eq m.turn Forward && tree_eq m.tree first then [] else exchange_of m ∷ []

  abbrev pub asked_of_trees : List TurnedTree → List Request
  asked_of_trees ms = flat_map asked_of_tree ms

-- the tree of a number under a turn
abbrev pub turned_at : (ℕ → List Pair) → List Row → Turn → ℕ → TurnedTree
turned_at word rows turn i = record { turn = turn; tree = tree_at word rows i }

-- A reading gives the numbers below n words that differ, number 0 the identity. All words of uses are numbered below n.
pub record IsWordReading (rows : List Row) (word : ℕ → List Pair) (n : ℕ) : Type 0 where
  pub placed : HasPlaces rows n
  pub told : TellsBelow n word
  pub identity : word 0 ≡ []

-- what is asked by numbers stands for what is asked of trees, and ends are the same by numbers exactly where they are
-- as trees
pub record StandsForTrees (rows : List Row) : Type 0 where
  pub merges : (word : ℕ → List Pair) (n : ℕ) (first : NodeId) (members : List NodeId) → IsWordReading rows word n →
      first.0 < length rows → All (λ (m : NodeId). m.0 < length rows) members →
      requests_by word rows (merging first members) ≡
      asked_of_trees (tree_at word rows first.0) (map (λ (m : NodeId). turned_at word rows Forward m.0) members)
  pub sews : (word : ℕ → List Pair) (n : ℕ) (first : NodeId) (members : List Member) → IsWordReading rows word n →
      first.0 < length rows → All (λ (m : Member). m.id.0 < length rows) members →
      requests_by word rows (sewing first members) ≡
      asked_of_trees (tree_at word rows first.0) (map (λ (m : Member). turned_at word rows m.turn m.id.0) members)
  pub ends : (word : ℕ → List Pair) (n i j : ℕ) (sign : Turn) → IsWordReading rows word n → i < length rows →
      j < length rows →
      HaveSameEnds rows i sign j ↔ HaveEqualEnds (tree_at word rows i) sign (tree_at word rows j)
