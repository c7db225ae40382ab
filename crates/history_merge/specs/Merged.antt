-- The history over no step, by the numbers of a pool's nodes and what it stands for among trees, and the laws of
-- composition.
use Rattle.std.specs.Prelude.{◌≡◌, ◌↔◌, ℕ, List, [], Contains}
use Rattle.orientation.specs.declared.kind.Kind.{Kind}
use Rattle.location_words.specs.declared.pair.Pair.{Pair}
use Rattle.expansion_laws.specs.Trees.{Tree}
use Rattle.expansion_laws.specs.Measures.{OccursIn}
use Rattle.shape_pool.specs.declared.node.NodeId.{NodeId}
use Rattle.shape_pool.specs.Rows.{Row, kind_at, tree_at}
use Rattle.step_history.specs.declared.history.StepHistory.{StepHistory}
use Rattle.step_history.specs.History.{IsSupported}
use Rattle.step_history.specs.Composition.{followed_by, no_history}
use Rattle.step_history.specs.Numbered.{IsReading, OccursAt, Tells, tree_by}

-- the pairs of a number of the root and itself, and nothing generated or removed
pub record IsStartAt (rows : List Row) (root : ℕ) (h : StepHistory) : Type 0 where
  pub images : (t s : NodeId) → Contains h.images (t, s) ↔
      ((t ≡ s) × IsSupported (kind_at rows t.0) × OccursAt rows root t.0)
  pub generated : h.generated ≡ []
  pub removed : h.removed ≡ []

-- a pair of a number and itself, of a kind of which histories speak
abbrev pub Stays : List Row → ℕ → NodeId × NodeId → Type 0
Stays rows i y = (i ≡ y.0.0) × (y.0 ≡ y.1) × IsSupported (kind_at rows i)

-- under each reading the history is the one over no step
abbrev pub TellsStart : List Row → ℕ → StepHistory → Type 0
TellsStart rows root h =
    (kind_of : Tree → Kind) (word : ℕ → List Pair) (n : ℕ) → IsReading rows kind_of word n →
    Tells (tree_by word rows) h (no_history kind_of (tree_at word rows root))

-- ---- laws
-- a list of pairs as a relation
abbrev pub pairs_of : List (Tree × Tree) → Tree → Tree → Type 0
pairs_of pairs t x = Contains pairs (t, x)

-- the trees of a root of which histories speak
abbrev pub IsOfRoot : (Tree → Kind) → Tree → Tree → Type 0
IsOfRoot kind_of root t = IsSupported (kind_of t) × OccursIn t root

-- Images compose alike however they are grouped, and the images over no step leave the others as they are: before those
-- whose first trees are of the root, and after those whose second trees are.
pub record ImagesCompose : Type 0 where
  pub grouped : (a b c : List (Tree × Tree)) (t x : Tree) →
      followed_by (followed_by (pairs_of a) (pairs_of b)) (pairs_of c) t x ↔
      followed_by (pairs_of a) (followed_by (pairs_of b) (pairs_of c)) t x
  pub before : (kind_of : Tree → Kind) (root : Tree) (a : List (Tree × Tree)) →
      ((t x : Tree) → Contains a (t, x) → IsOfRoot kind_of root t) →
      (t x : Tree) → followed_by (no_history kind_of root).images (pairs_of a) t x ↔ Contains a (t, x)
  pub after : (kind_of : Tree → Kind) (root : Tree) (a : List (Tree × Tree)) →
      ((t x : Tree) → Contains a (t, x) → IsOfRoot kind_of root x) →
      (t x : Tree) → followed_by (pairs_of a) (no_history kind_of root).images t x ↔ Contains a (t, x)
