use Rattle.std.proofs.Common.{◌∙◌, ap, arith, length, refl, Contains, map, subst, sym, true≢false}
use Rattle.shape_pool.specs.Laws.{ids_used}
use Rattle.written_order.specs.Placed.{Listed}
use Rattle.written_order.proofs.Places.{none_on, none_push}
use Rattle.written_order.proofs.Steps.{visit_done, visit_end, visit_use}
use Rattle.written_order.proofs.completing.+visit.Goals as goal

pub returns-then-has-clause-completed : goal.returns-then-has-clause-completed
returns-then-has-clause-completed t c =
    visit_done c.equal_trees_tell.ensures (length c.args.pool.now) (ids_used c.args.pool.now) c.args.id.0
    c.args.order.now.numbers (c.if-has.ensures.0 refl)

pub uses-preserved : goal.uses-preserved
uses-preserved t c = record {
  room = c.in_ok-visit.ensures.room ∙ c.uses.invariant.room;
  held = c.in_ok-visit.ensures.held;
  completed =
      visit_use c.equal_trees_tell.ensures (length c.args.pool.now) (ids_used c.args.pool.now)
      (ids_used c.args.pool.now c.args.id.0) c.uses.at c.used_at.result.0 c.args.order.now.numbers
      c.uses.order.numbers c.visit.new.order.numbers c.used_at.ensures.id c.uses.invariant.completed
      c.in_ok-visit.ensures.completed;
  stay =
      none_on c.args.id.0 c.used_at.result.0 _ _ _ c.used_at.ensures.earlier c.uses.invariant.stay
      c.in_ok-visit.ensures.stay;
}

pub returns-clause-completed : goal.returns-clause-completed
returns-clause-completed t c tree tell =
    let used = c.use_count-at-end.ensures in
    ap (λ (l : Listed). map tree l.numbers) c.in_ok-push.ensures
    ∙ visit_end c.equal_trees_tell.ensures (length c.args.pool.now) (ids_used c.args.pool.now) c.args.id.0
    c.args.order.now.numbers c.uses.order.numbers c.uses.at c.requires.id c.requires.held
    (λ there. true≢false (sym (c.if-has.ensures.1 there))) (omega (arith, used, c.uses-test.false))
    c.uses.invariant.completed tree tell

pub returns-clause-stay : goal.returns-clause-stay
returns-clause-stay t c k le there =
    none_push c.args.id.0 c.args.order.now.numbers c.uses.order.numbers c.uses.invariant.stay k le
    (subst (λ (l : Listed). Contains l.numbers k) c.in_ok-push.ensures there)
