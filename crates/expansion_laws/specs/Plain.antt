-- The trees and uses that the program's plain ones stand for.
use Rattle.expansion_laws.specs.declared.plain.Tree.{Tree as PlainTree, Tree-F, fold-Tree}
use Rattle.expansion_laws.specs.declared.plain.TreeUse.{TreeUse, TreeUse-F, fold-TreeUse}
use Rattle.expansion_laws.specs.Trees.{Tree, Use, a_single, tree_of}

-- one level, where each tree inside is already seen as what it stands for
abbrev pub tree_step : Tree-F Tree Use → Tree
tree_step n = tree_of n.origin n.uses.items

abbrev pub use_step : TreeUse-F Tree Use → Use
use_step u = a_single u.turn u.word u.tree.value

-- the tree that a plain tree stands for
abbrev pub shown_tree : PlainTree → Tree
shown_tree = fold-Tree Tree Use tree_step use_step

-- the use that a plain use stands for
abbrev pub shown_use : TreeUse → Use
shown_use = fold-TreeUse Tree Use tree_step use_step
