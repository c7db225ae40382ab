-- Whether two trees, or two uses, are one.
use Rattle.std.specs.Prelude.{◌==◌, ◌&&◌, Bool, true, false}
use Rattle.orientation.specs.Turns.{turn_eq}
use Rattle.location_words.specs.Pairs.{pairs_eq}
use Rattle.expansion_laws.specs.Trees.{Tree, Use, Uses, node, no_use, a_use}

abbrev mutual
  pub tree_eq : Tree → Tree → Bool
  tree_eq (node j us) (node k vs) = (j == k) && uses_eq us vs

  pub uses_eq : Uses → Uses → Bool
  uses_eq no_use no_use = true
  uses_eq no_use (a_use t' w' x' us') = false
  uses_eq (a_use t w x us) no_use = false
  uses_eq (a_use t w x us) (a_use t' w' x' us') = turn_eq t t' && pairs_eq w w' && tree_eq x x' && uses_eq us us'

abbrev pub use_eq : Use → Use → Bool
use_eq u v = turn_eq u.turn v.turn && pairs_eq u.word v.word && tree_eq u.tree v.tree
