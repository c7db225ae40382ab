-- The pair is added where its second came new.
use Rattle.std.proofs.Common.{refl}
use Rattle.step_history.specs.Gathering.{IsPair}
use Rattle.lists.proofs.Gathering.{adds-nothing, adds-one, refused}
use Rattle.step_history.proofs.GatherLaws.{id_of, named_by}
use Rattle.step_history.proofs.MadeLaws.{came-is, is-came}
use Rattle.step_history.proofs.made.pick_one.Goals as goal

pub returns-then-not-came_new : goal.returns-then-not-came_new
returns-then-not-came_new c =
    adds-nothing (IsPair c.args.pool.now c.args.fresh.now c.args.from c.args.id) c.args.out.now.items
    (λ y p. refused c.came_new.ensures c.if-not-came_new.true (is-came c.args.pool.now c.args.fresh.now c.args.from.0 c.args.id y.1.0 p.1 p.2))

pub returns : goal.returns
returns c =
    let h = c.came_new.ensures.0 c.if-not-came_new.false in
    let came = came-is c.args.pool.now c.args.fresh.now c.args.from.0 c.args.id h.0 h.1 h.2 in
    adds-one (IsPair c.args.pool.now c.args.fresh.now c.args.from c.args.id) c.args.out.now.items c.push.new.self.items (c.args.from, id_of c.args.id) c.in_ok-push.ensures.items
    (refl, refl, came) (λ y q. let a = q.0 in let b = named_by (id_of c.args.id) y.1 q.1 in (λ i. (a i, b i)))
