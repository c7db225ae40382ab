use Rattle.brep_writer.proofs.Plans.{number-left, number-some}
use Rattle.brep_writer.proofs.plan.WritePlan.number.Goals as goal

pub returns-clause-some : goal.returns-clause-some
returns-clause-some c =
    number-some c.args.self.now c.requires.plan c.laws.ensures c.orders_number.ensures c.args.id.0 c.number.result
    c.number.ensures.some

pub returns-clause-none : goal.returns-clause-none
returns-clause-none c =
    number-left c.args.self.now c.requires.plan c.laws.ensures c.orders_number.ensures c.args.id.0 c.number.result
    c.requires.id c.number.ensures.none
