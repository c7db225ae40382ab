-- Both ways, by the trees.
use Rattle.std.proofs.Common.{◌≡◌, subst}
use Rattle.std.specs.Prelude.{true}
use Rattle.expansion_laws.specs.Equality.{tree_eq}
use Rattle.expansion_laws.proofs.TreeEquality.{tree_eq-same, tree_eq-itself}
use Rattle.expansion_laws.proofs.laws.equal_trees_tell.Goals as goal

pub returns : goal.returns
returns c = λ x y. (tree_eq-same x y, λ e. subst (λ z. tree_eq x z ≡ true) e (tree_eq-itself x))
