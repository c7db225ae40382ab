-- Two histories in a row, by the numbers of a pool's nodes and what they stand for among trees.
use Rattle.std.specs.Prelude.{◌≡◌, ◌↔◌, ◌⊎◌, ℕ, List, ◌∷◌, Contains}
use Rattle.orientation.specs.declared.kind.Kind.{Kind}
use Rattle.location_words.specs.declared.pair.Pair.{Pair}
use Rattle.expansion_laws.specs.Trees.{Tree, Use}
use Rattle.shape_pool.specs.declared.node.NodeId.{NodeId}
use Rattle.shape_pool.specs.Rows.{Row, tree_at}
use Rattle.step_history.specs.declared.history.StepHistory.{StepHistory}
use Rattle.step_history.specs.Changes.{history_by}
use Rattle.step_history.specs.Composition.{Done, history_after}
use Rattle.step_history.specs.Numbered.{AreGone, IsReading, Tells, tree_by}
use Rattle.history_merge.specs.Joined.{IsJoined}

-- The images then the images; the images then what was generated, what was generated then the images, and what was
-- generated then what was generated from it; and what is gone, read afresh between the first root and the last.
pub record IsChainAt (rows : List Row) (first last : ℕ) (a b h : StepHistory) : Type 0 where
  pub images : (y : NodeId × NodeId) → Contains h.images y ↔ IsJoined a.images b.images y
  pub generated : (y : NodeId × NodeId) →
      Contains h.generated y ↔ (IsJoined a.images b.generated y ⊎
      (IsJoined a.generated b.images y ⊎ IsJoined a.generated b.generated y))
  pub removed : AreGone rows first last h.images h.removed

-- under each reading: where the first history is that of steps in a row, and the second that of the step after them,
-- the history is that of all these steps
abbrev pub TellsChain : List Row → ℕ → ℕ → StepHistory → StepHistory → StepHistory → Type 0
TellsChain rows first last a b h =
    (kind_of : Tree → Kind) (word : ℕ → List Pair) (n : ℕ) → IsReading rows kind_of word n →
    (root : Use) (steps : List Done) (next : Done) → root.tree ≡ tree_at word rows first →
    next.after.tree ≡ tree_at word rows last →
    Tells (tree_by word rows) a (history_after kind_of root steps) →
    Tells (tree_by word rows) b (history_by next.change next.before next.after) →
    Tells (tree_by word rows) h (history_after kind_of root (next ∷ steps))
