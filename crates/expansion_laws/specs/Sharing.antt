-- Trees relabelled, and files in which equal trees are one record.
use Rattle.std.specs.Prelude.{◌≡◌, ℕ, List, length, Contains}
use Rattle.expansion_laws.specs.Trees.{LabelledTree, LabelledUses, LabelledUse, Tree}
use Rattle.expansion_laws.specs.Trees.{Use, a_single, node, no_use, a_use, origin}
use Rattle.expansion_laws.specs.Measures.{subtrees}
use Rattle.expansion_laws.specs.Expansion.{NumberedUse, IsNumberOf, tree_of_number, expansion}

-- the tree with the label of each node replaced by one that the node's tree determines
module _ {L M : Type 0} (label : LabelledTree L → M) where
  abbrev mutual
    pub relabelled : LabelledTree L → LabelledTree M
    relabelled (node k us) = node (label (node k us)) (relabelled_uses us)

    pub relabelled_uses : LabelledUses L → LabelledUses M
    relabelled_uses no_use = no_use
    relabelled_uses (a_use t w x others) = a_use t w (relabelled x) (relabelled_uses others)

  abbrev pub relabelled_use : LabelledUse L → LabelledUse M
  relabelled_use u = a_single u.turn u.word (relabelled u.tree)

-- the tree with each origin replaced by another
abbrev pub with_origins : (ℕ → ℕ) → Tree → Tree
with_origins origin_of x = relabelled (λ y. origin_of (origin y)) x

abbrev pub use_with_origins : (ℕ → ℕ) → Use → Use
use_with_origins origin_of u = relabelled_use (λ y. origin_of (origin y)) u

-- every record of the file stands at or below the root, and no two records have one tree once they are relabelled
pub record IsShared (records : List (List NumberedUse)) (root : NumberedUse) (origin_of : ℕ → ℕ) : Type 0 where
  pub stands : (k : ℕ) → IsNumberOf (length records) k →
      Contains (subtrees (expansion records root).tree) (tree_of_number records k)
  pub apart : (j k : ℕ) → IsNumberOf (length records) j → IsNumberOf (length records) k →
      with_origins origin_of (tree_of_number records j) ≡ with_origins origin_of (tree_of_number records k) → j ≡ k
