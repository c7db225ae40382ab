-- An order of finishing has each number once.
use Rattle.requests.proofs.PlanLaws.{numbers-distinct}
use Rattle.requests.proofs.check.planned.Goals as goal

pub plan_of-requires-clause-distinct : goal.plan_of-requires-clause-distinct
plan_of-requires-clause-distinct c =
    numbers-distinct c.args.reached.now.nodes.keys c.args.reached.now.graph c.args.order.now c.requires.distinct c.requires.long c.requires.found
