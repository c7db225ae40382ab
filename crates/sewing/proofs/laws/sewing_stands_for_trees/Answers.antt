use Rattle.sewing.proofs.TreeLaws.{stands-for-trees}
use Rattle.sewing.proofs.laws.sewing_stands_for_trees.Goals as goal

pub returns : goal.returns
returns c = stands-for-trees c.args.pool.now c.laws.ensures c.equal_trees_tell.ensures
