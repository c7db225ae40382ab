use Rattle.std.proofs.Common.{refl, subst, sym}
use Rattle.written_order.specs.Orders.{HasAsManyAtLeast}
use Rattle.brep_writer.specs.Plans.{plan_root}
use Rattle.brep_writer.proofs.Plans.{few}
use Rattle.brep_writer.proofs.plan.WritePlan.records.Goals as goal

pub returns-clause-count : goal.returns-clause-count
returns-clause-count c =
    few c.args.self.now c.requires.plan c.laws.ensures c.orders_number.ensures c.len.result c.len.ensures

pub returns-clause-fewest : goal.returns-clause-fewest
returns-clause-fewest c =
    let p = c.args.self.now in
    let loaded = c.requires.plan.source.loaded in
    subst (HasAsManyAtLeast (plan_root p)) (sym c.len.ensures)
    ((c.orders_number.ensures p.source.pool.now p.source.words.now c.laws.ensures loaded.table loaded.places).fewest
    p.root.id.0 p.order.numbers (plan_root p) c.requires.plan.order refl)
