-- The nodes that are made stand for results.
use Rattle.std.specs.Prelude.{◌≡◌, ◌↔◌, ◌<◌, ◌+◌, ◌++◌, ◌∷◌, [], ℕ, Bool, List}
use Rattle.std.specs.Prelude.{map, length, take, Contains, Some, slice_get}
use Rattle.location_words.specs.declared.pair.Pair.{Pair}
use Rattle.expansion_laws.specs.Trees.{Tree, Use}
use Rattle.shape_pool.specs.declared.node.NodeId.{NodeId}
use Rattle.shape_pool.specs.Rows.{Row, tree_at}
use Rattle.key_results.specs.declared.derive.Visit.{Visit}
use Rattle.key_results.specs.declared.parts.Outgrowth.{Outgrowth}
use Rattle.key_results.specs.Derivations.{results_at, results_of, results_over, size_made, sizes_from, AreLinked}
use Rattle.key_results.specs.Parts.{own_at, results_in, AreOutgrowths, AreOfOwn}
use Rattle.key_results.specs.Grown.{StandForOwn}
use Rattle.key_results.specs.Pairs.{IsNodeOf}

-- the trees of results
abbrev pub trees_of_results : List Use → List Tree
trees_of_results results = map (λ (u : Use). u.tree) results

-- what has come of a key gives its results
abbrev pub GiveResults : (ℕ → List Pair) → (ℕ → Tree) → Bool → List Visit → List Outgrowth → Type 0
GiveResults word tree prune visits outgrowths =
    AreLinked visits → AreOutgrowths word (results_of word tree prune visits) prune visits outgrowths →
    (k : ℕ) → k < length visits →
    results_in word (own_at (results_of word tree prune visits)) outgrowths k ≡
    results_at (results_of word tree prune visits) k

-- the trees of the results of a key are those of its nodes
abbrev pub AreTreesOfNodes : List Row → List Row → (ℕ → List Pair) → Bool → List Visit → List Outgrowth →
    List NodeId → Type 0
AreTreesOfNodes old new word prune visits outgrowths nodes =
    AreLinked visits → AreOutgrowths word (results_of word (tree_at word old) prune visits) prune visits outgrowths →
    AreOfOwn outgrowths → length nodes ≡ length visits → StandForOwn old new visits outgrowths nodes →
    (k : ℕ) (o : Outgrowth) (y : Tree) → slice_get outgrowths k ≡ Some o →
    Contains (trees_of_results (results_at (results_of word (tree_at word old) prune visits) k)) y ↔
    ((n : NodeId) × IsNodeOf nodes k o n × (tree_at word new n.0 ≡ y))

-- what a list of visits denotes follows it, visit by visit, and so does the sum of what they bring
pub record FollowVisits (word : ℕ → List Pair) (tree : ℕ → Tree) (prune : Bool) : Type 0 where
  pub long : (visits : List Visit) → length (results_of word tree prune visits) ≡ length visits
  pub entry : (visits : List Visit) → AreLinked visits → (k : ℕ) (v : Visit) → slice_get visits k ≡ Some v →
      results_at (results_of word tree prune visits) k ≡
      results_over word tree prune (results_of word tree prune visits) v
  pub next : (visits : List Visit) (i : ℕ) (v : Visit) → slice_get visits i ≡ Some v →
      results_of word tree prune (take (i + 1) visits) ≡
      results_of word tree prune (take i visits) ++
      results_over word tree prune (results_of word tree prune (take i visits)) v ∷ []
  pub size_next : (visits : List Visit) (i : ℕ) (v : Visit) → slice_get visits i ≡ Some v →
      sizes_from word tree prune [] (take (i + 1) visits) ≡
      sizes_from word tree prune [] (take i visits) +
      size_made v.outcome (results_over word tree prune (results_of word tree prune (take i visits)) v)
  pub size_none : sizes_from word tree prune [] [] ≡ 0
