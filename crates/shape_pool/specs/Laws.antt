-- What holds of every pool.
use Rattle.std.specs.Prelude.{◌≡◌, ℕ, ◌<◌, ◌≤◌, ◌↔◌, List, [], map, length, All, Contains, Some, slice_get, unwrap_or}
use Rattle.orientation.specs.declared.kind.Kind.TheVariants.{Co}
use Rattle.location_words.specs.declared.pair.Pair.{Pair}
use Rattle.location_words.specs.Tables.{IsTable}
use Rattle.expansion_laws.specs.Trees.{Tree, tree_of}
use Rattle.expansion_laws.specs.Measures.{depth, subtrees}
use Rattle.graph_walks.specs.Walks.{Reaches}
use Rattle.shape_pool.specs.declared.node.UseOf.{UseOf}
use Rattle.shape_pool.specs.Rows.{Row, kind_at, origin_at, uses_at, use_by, tree_at, depth_at}
use Rattle.shape_pool.specs.Rows.{depth_over, AllBelow, HasPlaces, most_depth, most_nodes}
use Rattle.shape_pool.specs.Calls.{IsHeldAs}

-- different numbers below n have different words
abbrev pub TellsBelow : ℕ → (ℕ → List Pair) → Type 0
TellsBelow n word = (a b : ℕ) → a < n → b < n → word a ≡ word b → a ≡ b

-- the reading by a table of words
abbrev pub word_in : List (List Pair) → ℕ → List Pair
word_in table i = unwrap_or (slice_get table i) []

-- numbers are equal exactly where their trees are, under words that tell the numbers of the uses' words apart
abbrev pub IdsTellTrees : List Row → Type 0
IdsTellTrees rows =
    (n : ℕ) (word : ℕ → List Pair) → HasPlaces rows n → TellsBelow n word →
    (i j : ℕ) → i < length rows → j < length rows → (i ≡ j) ↔ (tree_at word rows i ≡ tree_at word rows j)

-- and so under a table that holds the words of all uses
abbrev pub IdsTellTreesBy : List Row → Type 0
IdsTellTreesBy rows =
    (table : List (List Pair)) → IsTable table → HasPlaces rows (length table) →
    (i j : ℕ) → i < length rows → j < length rows →
    (i ≡ j) ↔ (tree_at (word_in table) rows i ≡ tree_at (word_in table) rows j)

-- a number's tree is its origin over the trees of its uses
abbrev pub TreesOfUses : List Row → Type 0
TreesOfUses rows =
    (word : ℕ → List Pair) (i : ℕ) → i < length rows →
    tree_at word rows i ≡ tree_of (origin_at rows i) (map (use_by word (tree_at word rows)) (uses_at rows i))

-- and is the same under words that agree on the numbers of the uses' words, as do those of a table and of one that has
-- grown
pub record TreesReadAlike (rows : List Row) : Type 0 where
  pub words : (n : ℕ) (word word' : ℕ → List Pair) → HasPlaces rows n → ((a : ℕ) → a < n → word a ≡ word' a) →
      (i : ℕ) → i < length rows → tree_at word rows i ≡ tree_at word' rows i
  pub tables : (table table' : List (List Pair)) → HasPlaces rows (length table) →
      ((a : ℕ) (w : List Pair) → slice_get table a ≡ Some w → slice_get table' a ≡ Some w) →
      (i : ℕ) → i < length rows → tree_at (word_in table) rows i ≡ tree_at (word_in table') rows i

-- a node of an origin over uses is held once
abbrev pub NodesAreHeldOnce : List Row → Type 0
NodesAreHeldOnce rows = (o : ℕ) (us : List UseOf) (i j : ℕ) → IsHeldAs rows o us i → IsHeldAs rows o us j → i ≡ j

-- uses name earlier numbers
abbrev pub UsesAreEarlier : List Row → Type 0
UsesAreEarlier rows = (i : ℕ) → i < length rows → All (λ (u : UseOf). u.id.0 < i) (uses_at rows i)

-- kinds are those of trees: uses have kinds below their own node's, one origin has one kind, and origin 0 is a
-- compound's
pub record KindsOfTrees (rows : List Row) : Type 0 where
  pub below : (i : ℕ) → i < length rows → AllBelow rows (kind_at rows i) (uses_at rows i)
  pub one_kind : (i j : ℕ) → i < length rows → j < length rows → origin_at rows i ≡ origin_at rows j →
      kind_at rows i ≡ kind_at rows j
  pub made : (i : ℕ) → i < length rows → origin_at rows i ≡ 0 → kind_at rows i ≡ Co

-- depths are those of trees under any words, within the limit
pub record DepthsOfTrees (rows : List Row) : Type 0 where
  pub trees : (word : ℕ → List Pair) (i : ℕ) → depth (tree_at word rows i) ≡ depth_at rows i
  pub uses : (i : ℕ) → i < length rows → depth_at rows i ≡ depth_over rows (uses_at rows i)
  pub within : (i : ℕ) → depth_at rows i ≤ most_depth

-- the numbers that a number's uses name
abbrev pub ids_used : List Row → ℕ → List ℕ
ids_used rows i = map (λ (u : UseOf). u.id.0) (uses_at rows i)

-- the numbers that are reached from a root are held, and stand for the subtrees of its tree
pub record IdsOfSubtrees (rows : List Row) : Type 0 where
  pub held : (root i : ℕ) → root < length rows → Reaches (ids_used rows) root i → i ≤ root
  pub subtree : (word : ℕ → List Pair) (root i : ℕ) → root < length rows → Reaches (ids_used rows) root i →
      Contains (subtrees (tree_at word rows root)) (tree_at word rows i)
  pub reached : (word : ℕ → List Pair) (root : ℕ) (x : Tree) → root < length rows →
      Contains (subtrees (tree_at word rows root)) x →
      (i : ℕ) × Reaches (ids_used rows) root i × (tree_at word rows i ≡ x)

-- what holds of every pool
pub record IsSound (rows : List Row) : Type 0 where
  pub few : length rows ≤ most_nodes
  pub ids_tell_trees : IdsTellTrees rows
  pub ids_tell_trees_by : IdsTellTreesBy rows
  pub trees_of_uses : TreesOfUses rows
  pub trees_read_alike : TreesReadAlike rows
  pub nodes_are_held_once : NodesAreHeldOnce rows
  pub uses_are_earlier : UsesAreEarlier rows
  pub kinds_of_trees : KindsOfTrees rows
  pub depths_of_trees : DepthsOfTrees rows
  pub ids_of_subtrees : IdsOfSubtrees rows
