-- The nodes that come of keys.
use Rattle.std.specs.Prelude.{◌≡◌, ◌⊎◌, ℕ, Bool, true, suc, ◌<◌, ◌≤◌, List, ◌++◌, map, length, All, Contains}
use Rattle.std.specs.Prelude.{Some, slice_get, slice_index_or}
use Rattle.lists.specs.Distinct.{IsDistinct}
use Rattle.orientation.specs.Kinds.{IsBelow}
use Rattle.location_words.specs.declared.pair.Pair.{Pair}
use Rattle.expansion_laws.specs.Trees.{Tree, Use}
use Rattle.expansion_laws.specs.Steps.{root_of}
use Rattle.expansion_laws.specs.Measures.{depth}
use Rattle.shape_pool.specs.declared.node.NodeId.{NodeId}
use Rattle.shape_pool.specs.declared.node.UseOf.{UseOf}
use Rattle.shape_pool.specs.declared.fault.PoolFault.TheVariants.{TooMany, TooDeep}
use Rattle.shape_pool.specs.Rows.{Row, kind_at, tree_at, trees_of, most_depth, most_nodes}
use Rattle.shape_pool.specs.Calls.{IsRefused}
use Rattle.key_results.specs.declared.derive.Outcome.TheVariants.{Rebuilt}
use Rattle.key_results.specs.declared.derive.Visit.{Visit}
use Rattle.key_results.specs.declared.fault.ApplyFault.{ApplyFault}
use Rattle.key_results.specs.declared.fault.ApplyFault.TheVariants.{Limit, NoMemory}
use Rattle.key_results.specs.declared.fault.LimitKind.TheVariants.{Depth, Nodes}
use Rattle.key_results.specs.declared.parts.Part.{Part}
use Rattle.key_results.specs.declared.parts.Outgrowth.{Outgrowth}
use Rattle.key_results.specs.Derivations.{results_of}
use Rattle.key_results.specs.Parts.{own_at, is_own_at, AreOutgrowths}

-- more than n different things have a fact
abbrev pub AreMoreThan : {X : Type 0} → ℕ → (X → Type 0) → Type 0
AreMoreThan {X} n P = (xs : List X) × IsDistinct xs × All P xs × (n < length xs)

-- rows come after those that were there
abbrev pub Extends : List Row → List Row → Type 0
Extends old new = (more : List Row) × (new ≡ old ++ more)

-- the use of a key's node that a part stands for; the number given stands for those that are missing
abbrev pub node_use : NodeId → List NodeId → Part → UseOf
node_use d nodes p = record { turn = p.turn; place = p.place; id = slice_index_or nodes p.of d }

abbrev pub node_uses : NodeId → List NodeId → List Part → List UseOf
node_uses d nodes parts = map (node_use d nodes) parts

-- why a node isn't rebuilt
abbrev pub IsNodeRefused : List Row → ℕ → List UseOf → ApplyFault → Type 0
IsNodeRefused rows o us (Limit Nodes n) = IsRefused rows o us (TooMany n)
IsNodeRefused rows o us (Limit Depth n) = IsRefused rows o us (TooDeep n)
IsNodeRefused rows o us (Limit _ n) = ⊥
IsNodeRefused rows o us NoMemory = Unit {0}

-- each node is held, and has the kind of the node that was visited
abbrev pub KeepKinds : List Row → List Row → List Visit → List NodeId → Type 0
KeepKinds old new visits nodes =
    (k : ℕ) (v : Visit) (n : NodeId) → slice_get visits k ≡ Some v → slice_get nodes k ≡ Some n →
    (n.0 < length new) × (kind_at new n.0 ≡ kind_at old v.id.0)

-- where a tree of its own comes of a key, its node stands for it
abbrev pub StandForOwn : List Row → List Row → List Visit → List Outgrowth → List NodeId → Type 0
StandForOwn old new visits outgrowths nodes =
    (word : ℕ → List Pair) (k : ℕ) (o : Outgrowth) (n : NodeId) (prune : Bool) →
    AreOutgrowths word (results_of word (tree_at word old) prune visits) prune visits outgrowths →
    slice_get outgrowths k ≡ Some o → slice_get nodes k ≡ Some n → o.own ≡ true →
    tree_at word new n.0 ≡ own_at (results_of word (tree_at word old) prune visits) k

-- each further row is that of a tree of its own that comes of some key
abbrev pub AreNewOwn : List Row → List Row → List Outgrowth → List NodeId → Type 0
AreNewOwn old new outgrowths nodes =
    (i : ℕ) → length old ≤ i → i < length new →
    (k : ℕ) × (n : NodeId) × (slice_get nodes k ≡ Some n) × (n.0 ≡ i) × (is_own_at outgrowths k ≡ true)

-- the parts of a node that is rebuilt are of lower kinds, as its own uses are
abbrev pub AreInOrder : List Row → List Visit → List Outgrowth → Type 0
AreInOrder rows visits outgrowths =
    (k : ℕ) (v : Visit) (o : Outgrowth) (p : Part) (u : Visit) → slice_get visits k ≡ Some v →
    slice_get outgrowths k ≡ Some o → v.outcome ≡ Rebuilt → Contains o.parts.items p → slice_get visits p.of ≡ Some u →
    IsBelow (kind_at rows u.id.0) (kind_at rows v.id.0)

-- a tree of its own that comes of some key
abbrev pub IsOwn : (ℕ → List Pair) → (ℕ → Tree) → Bool → List Visit → List Outgrowth → Tree → Type 0
IsOwn word tree prune visits outgrowths x =
    (k : ℕ) × (o : Outgrowth) × (slice_get outgrowths k ≡ Some o) × (o.own ≡ true) ×
    (own_at (results_of word tree prune visits) k ≡ x)

-- why the nodes aren't made: they would be too many, together with those held, or one of them is too deep
abbrev pub IsMakingRefused : List Row → List Visit → List Outgrowth → ApplyFault → (ℕ → List Pair) → Bool → Type 0
IsMakingRefused rows visits outgrowths (Limit Nodes n) word prune =
    AreMoreThan most_nodes
    (λ x. Contains (trees_of word rows) x ⊎ IsOwn word (tree_at word rows) prune visits outgrowths x) ×
    (n ≡ suc most_nodes)
IsMakingRefused rows visits outgrowths (Limit Depth n) word prune =
    (x : Tree) × IsOwn word (tree_at word rows) prune visits outgrowths x × (most_depth < depth x) × (n ≡ depth x)
IsMakingRefused rows visits outgrowths (Limit _ n) word prune = ⊥
IsMakingRefused rows visits outgrowths NoMemory word prune = Unit {0}

-- the nodes of parts stand for their trees
abbrev pub StandForParts : (ℕ → List Pair) → List Row → List Part → List NodeId → (ℕ → Tree) → Type 0
StandForParts word rows parts nodes own =
    (p : Part) (n : NodeId) → Contains parts p → slice_get nodes p.of ≡ Some n → tree_at word rows n.0 ≡ own p.of

-- why the new root isn't made: its tree would be one too many, or is too deep
abbrev pub IsRootRefused : (ℕ → List Pair) → List Row → List Use → ApplyFault → Type 0
IsRootRefused word rows results (Limit Nodes n) =
    AreMoreThan most_nodes (λ x. Contains (trees_of word rows) x ⊎ (x ≡ (root_of results).tree)) × (n ≡ suc most_nodes)
IsRootRefused word rows results (Limit Depth n) =
    (most_depth < depth (root_of results).tree) × (n ≡ depth (root_of results).tree)
IsRootRefused word rows results (Limit _ n) = ⊥
IsRootRefused word rows results NoMemory = Unit {0}
