-- One use more.
use Rattle.std.proofs.Common.{◌≡◌, ◌∙◌, subst, true}
use Rattle.std.proofs.lemmas.Option.{slice_get_within}
use Rattle.lists.proofs.Places.{same_entry}
use Rattle.shape_pool.specs.declared.node.UseOf.{UseOf}
use Rattle.shape_pool.specs.Rows.{uses_at}
use Rattle.explorer.specs.Levels.{is_marked}
use Rattle.explorer.proofs.MarkLemmas.{next-here, next-later}
use Rattle.explorer.proofs.entering.next_marked.Goals as goal

pub returns-then-marks-one-clause-some : goal.returns-then-marks-one-clause-some
returns-then-marks-one-clause-some c = record {
  within =
      slice_get_within (uses_at c.args.pool.now c.args.id.0) c.loop-i.i c.use_of-one.result c.use_of-one.ensures;
  next = λ u e.
      c.loop-i.invariant ∙
      next-here c.args.marks.now (uses_at c.args.pool.now c.args.id.0) c.loop-i.i u e
      (subst (λ (v : UseOf). is_marked c.args.marks.now v ≡ true) (same_entry c.use_of-one.ensures e)
      c.if-marks-one.true);
  marked = λ u e.
      subst (λ (v : UseOf). is_marked c.args.marks.now v ≡ true) (same_entry c.use_of-one.ensures e)
      c.if-marks-one.true;
}

pub loop-i-preserved : goal.loop-i-preserved
loop-i-preserved c =
    c.loop-i.invariant ∙
    next-later c.args.marks.now (uses_at c.args.pool.now c.args.id.0) c.loop-i.i c.use_of-one.result
    c.use_of-one.ensures c.if-marks-one.false
