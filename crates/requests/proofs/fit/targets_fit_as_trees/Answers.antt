-- By the kinds and the uses of trees.
use Rattle.requests.proofs.TreeFitLaws.{target-fits}
use Rattle.requests.proofs.fit.targets_fit_as_trees.Goals as goal

pub returns : goal.returns
returns c kind word kinds = target-fits c.args.pool.now word c.laws.ensures kind kinds
