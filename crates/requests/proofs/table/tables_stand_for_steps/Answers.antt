-- Numbers stand for trees.
use Rattle.requests.proofs.StepLaws.{stands-for-step}
use Rattle.requests.proofs.table.tables_stand_for_steps.Goals as goal

pub returns : goal.returns
returns c t = stands-for-step c.args.pool.now t c.laws.ensures c.equal_trees_tell.ensures c.test_tells.ensures
