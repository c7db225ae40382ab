-- What a pool holds: each node by its kind, its origin, and its uses by the numbers of their nodes. A node's number is
-- its place.
use Rattle.std.specs.Prelude.{◌≡◌, ℕ, suc, ◌<◌, max, List, [], ◌∷◌, ◌++◌, map, fold, length, All, slice_get, unwrap_or}
use Rattle.std.specs.Option.{option_map_or}
use Rattle.orientation.specs.declared.kind.Kind.{Kind}
use Rattle.orientation.specs.declared.kind.Kind.TheVariants.{Co}
use Rattle.orientation.specs.Kinds.{IsBelow}
use Rattle.location_words.specs.declared.pair.Pair.{Pair}
use Rattle.expansion_laws.specs.Trees.{Tree, Use, a_single, tree_of}
use Rattle.expansion_laws.specs.Measures.{depth}
use Rattle.shape_pool.specs.declared.node.UseOf.{UseOf}

pub record Row : Type 0 where
  pub kind : Kind
  pub origin : ℕ
  pub uses : List UseOf

abbrev pub a_row : Kind → ℕ → List UseOf → Row
a_row k o us = record { kind = k; origin = o; uses = us }

-- the kind, the origin and the uses of a number
module _ (rows : List Row) (i : ℕ) where
  abbrev pub kind_at : Kind
  kind_at = option_map_or (λ (r : Row). r.kind) (slice_get rows i) Co

  abbrev pub origin_at : ℕ
  origin_at = option_map_or (λ (r : Row). r.origin) (slice_get rows i) 0

  abbrev pub uses_at : List UseOf
  uses_at = option_map_or (λ (r : Row). r.uses) (slice_get rows i) []

-- the nodes of an origin have its kind
abbrev pub HaveKinds : List Row → (ℕ → Kind) → Type 0
HaveKinds rows kind = (i : ℕ) → i < length rows → kind (origin_at rows i) ≡ kind_at rows i

-- trees, under a reading of the numbers of words
module _ (word : ℕ → List Pair) where
  -- the use that a numbered use stands for
  abbrev pub use_by : (ℕ → Tree) → UseOf → Use
  use_by tree u = a_single u.turn (word u.place.0) (tree u.id.0)

  abbrev pub tree_in : List Tree → ℕ → Tree
  tree_in trees i = unwrap_or (slice_get trees i) (tree_of 0 [])

  -- the tree of an origin over numbered uses
  abbrev pub tree_over : List Tree → ℕ → List UseOf → Tree
  tree_over trees o us = tree_of o (map (use_by (tree_in trees)) us)

  -- the trees of rows, each over those before it
  unfoldable pub trees_of : List Row → List Tree
  trees_of rows = fold (λ trees (r : Row). trees ++ tree_over trees r.origin r.uses ∷ []) [] rows

  -- the tree of a number
  abbrev pub tree_at : List Row → ℕ → Tree
  tree_at rows i = tree_in (trees_of rows) i

-- the greatest of the sizes that uses' numbers have, 0 without uses
abbrev pub greatest : (ℕ → ℕ) → List UseOf → ℕ
greatest size [] = 0
greatest size (u ∷ us) = max (size u.id.0) (greatest size us)

-- the depth of a number's tree, which no word changes, and of a tree over uses
abbrev pub depth_at : List Row → ℕ → ℕ
depth_at rows i = depth (tree_at (λ _. []) rows i)

abbrev pub depth_over : List Row → List UseOf → ℕ
depth_over rows us = suc (greatest (depth_at rows) us)

-- the uses name held numbers, of kinds below a parent's, with words numbered below n
abbrev pub AllHeld : List Row → List UseOf → Type 0
AllHeld rows us = All (λ (u : UseOf). u.id.0 < length rows) us

abbrev pub AllBelow : List Row → Kind → List UseOf → Type 0
AllBelow rows k us = All (λ (u : UseOf). IsBelow (kind_at rows u.id.0) k) us

abbrev pub AllPlaced : ℕ → List UseOf → Type 0
AllPlaced n us = All (λ (u : UseOf). u.place.0 < n) us

-- the words of all uses have numbers below n
abbrev pub HasPlaces : List Row → ℕ → Type 0
HasPlaces rows n = (i : ℕ) → i < length rows → AllPlaced n (uses_at rows i)

-- the limits of a pool
abbrev pub most_nodes : ℕ
most_nodes = 4194304

abbrev pub most_depth : ℕ
most_depth = 512
