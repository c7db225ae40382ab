-- What stands in a tree.
use Rattle.std.specs.Prelude.{◌≡◌, ◌⊎◌, Contains}
use Rattle.expansion_laws.specs.Trees.{Tree, Use, uses}
use Rattle.expansion_laws.specs.Measures.{subtrees}

-- In a tree stand the tree itself and what stands in the trees of its uses, and nothing else; and what stands in a tree
-- that stands there.
pub record SubtreesStand : Type 0 where
  pub itself : (x : Tree) → Contains (subtrees x) x
  pub below : (x : Tree) (u : Use) (y : Tree) → Contains (uses x) u → Contains (subtrees u.tree) y →
      Contains (subtrees x) y
  pub cases : (x y : Tree) → Contains (subtrees x) y →
      (x ≡ y) ⊎ ((u : Use) × Contains (uses x) u × Contains (subtrees u.tree) y)
  pub onward : (x y z : Tree) → Contains (subtrees x) y → Contains (subtrees y) z → Contains (subtrees x) z
