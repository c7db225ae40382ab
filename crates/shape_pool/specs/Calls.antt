-- What the calls of a pool answer and leave.
use Rattle.std.specs.Prelude.{◌≡◌, ℕ, suc, ◌<◌, ◌≤◌, ◌⊎◌, ◌↔◌, List, [], ◌∷◌, ◌++◌, map, length}
use Rattle.orientation.specs.declared.kind.Kind.{Kind}
use Rattle.location_words.specs.declared.pair.Pair.{Pair}
use Rattle.expansion_laws.specs.Trees.{tree_of}
use Rattle.shape_pool.specs.declared.node.UseOf.{UseOf}
use Rattle.shape_pool.specs.declared.fault.PoolFault.{PoolFault}
use Rattle.shape_pool.specs.declared.fault.PoolFault.TheVariants.{TooMany, TooDeep, NoMemory}
use Rattle.shape_pool.specs.declared.node.Node.{Node}
use Rattle.shape_pool.specs.Nodes.{node_id, tree_of_node}
use Rattle.shape_pool.specs.Rows.{Row, a_row, kind_at, origin_at, uses_at, use_by, tree_at}
use Rattle.shape_pool.specs.Rows.{depth_over, AllPlaced, HasPlaces, most_depth, most_nodes}

-- a held number of this origin; the first of them, under which the origin was loaded; whether it is loaded
abbrev pub IsOf : List Row → ℕ → ℕ → Type 0
IsOf rows o i = (i < length rows) × (origin_at rows i ≡ o)

abbrev pub IsLoadedAs : List Row → ℕ → ℕ → Type 0
IsLoadedAs rows o i = (1 ≤ o) × IsOf rows o i × ((j : ℕ) → IsOf rows o j → i ≤ j)

abbrev pub IsLoaded : List Row → ℕ → Type 0
IsLoaded rows o = (1 ≤ o) × (i : ℕ) × IsOf rows o i

-- a held number of this origin over these uses
abbrev pub IsHeldAs : List Row → ℕ → List UseOf → ℕ → Type 0
IsHeldAs rows o us i = (i < length rows) × (origin_at rows i ≡ o) × (uses_at rows i ≡ us)

-- a held number of this kind and origin over these uses
pub record IsNode (rows : List Row) (k : Kind) (o : ℕ) (us : List UseOf) (i : ℕ) : Type 0 where
  pub held : i < length rows
  pub kind : kind_at rows i ≡ k
  pub origin : origin_at rows i ≡ o
  pub uses : uses_at rows i ≡ us

-- the number is the one that is held of this origin over these uses, or else such a node has come last
abbrev pub IsHandedIn : List Row → Kind → ℕ → List UseOf → List Row → ℕ → Type 0
IsHandedIn old k o us new i =
    ((new ≡ old) × IsHeldAs old o us i) ⊎
    (((j : ℕ) → IsHeldAs old o us j → ⊥) × (new ≡ old ++ a_row k o us ∷ []) × (i ≡ length old))

-- and so for a held number's kind and origin, over other uses
abbrev pub IsNodeLike : List Row → ℕ → List UseOf → List Row → ℕ → Type 0
IsNodeLike old id us new i = IsNode new (kind_at old id) (origin_at old id) us i

abbrev pub IsHandedInLike : List Row → ℕ → List UseOf → List Row → ℕ → Type 0
IsHandedInLike old id us new i = IsHandedIn old (kind_at old id) (origin_at old id) us new i

-- a shared node stands for the tree of its number
abbrev pub StandsForNumber : List Row → Node → Type 0
StandsForNumber rows n = (word : ℕ → List Pair) → tree_of_node word n ≡ tree_at word rows (node_id n)

-- a number stands for the tree of an origin over the trees that uses name
abbrev pub IsTreeOver : List Row → ℕ → List UseOf → List Row → ℕ → Type 0
IsTreeOver old o us new i =
    (word : ℕ → List Pair) → tree_at word new i ≡ tree_of o (map (use_by word (tree_at word old)) us)

-- why a node is refused: its tree is too deep, or else it isn't held and would be one too many
abbrev pub IsRefused : List Row → ℕ → List UseOf → PoolFault → Type 0
IsRefused rows o us (TooMany n) = (depth_over rows us ≤ most_depth) × ((i : ℕ) → IsHeldAs rows o us i → ⊥) ×
    (length rows ≡ most_nodes) × (n ≡ suc most_nodes)
IsRefused rows o us (TooDeep n) = (most_depth < depth_over rows us) × (n ≡ depth_over rows us)
IsRefused rows o us NoMemory = Unit {0}

-- earlier numbers keep what they stand for
pub record Keeps (old new : List Row) : Type 0 where
  pub grows : length old ≤ length new
  pub kinds : (i : ℕ) → i < length old → kind_at new i ≡ kind_at old i
  pub origins : (i : ℕ) → i < length old → origin_at new i ≡ origin_at old i
  pub uses : (i : ℕ) → i < length old → uses_at new i ≡ uses_at old i
  pub trees : (word : ℕ → List Pair) (i : ℕ) → i < length old → tree_at word new i ≡ tree_at word old i

-- the same origins are loaded, under the same numbers
pub record KeepsLoaded (old new : List Row) : Type 0 where
  pub loaded : (o : ℕ) → IsLoaded new o ↔ IsLoaded old o
  pub loaded_as : (o i : ℕ) → IsLoadedAs new o i ↔ IsLoadedAs old o i

-- one more origin is loaded, under a number
pub record IsLoadedToo (old new : List Row) (origin number : ℕ) : Type 0 where
  pub loaded : (o : ℕ) → IsLoaded new o ↔ ((o ≡ origin) ⊎ IsLoaded old o)
  pub loaded_as : (o i : ℕ) → IsLoadedAs new o i ↔ (((o ≡ origin) × (i ≡ number)) ⊎ IsLoadedAs old o i)

-- the origins that were loaded under numbers below the mark are loaded still, and no others
pub record KeepsLoadedBelow (mark : ℕ) (old new : List Row) : Type 0 where
  pub loaded : (o : ℕ) → IsLoaded new o ↔ ((i : ℕ) × IsLoadedAs old o i × (i < mark))
  pub loaded_as : (o i : ℕ) → IsLoadedAs new o i ↔ (IsLoadedAs old o i × (i < mark))

-- words of held uses are numbered below n as before, where those of the new uses are
abbrev pub KeepsPlaces : List Row → List UseOf → List Row → Type 0
KeepsPlaces old us new = (n : ℕ) → HasPlaces old n → AllPlaced n us → HasPlaces new n
