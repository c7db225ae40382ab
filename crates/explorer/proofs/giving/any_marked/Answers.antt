-- One use more.
use Rattle.std.proofs.Common.{◌∙◌, sym}
use Rattle.shape_pool.specs.Rows.{uses_at}
use Rattle.explorer.proofs.MarkLemmas.{any-here, any-later}
use Rattle.explorer.proofs.giving.any_marked.Goals as goal

pub returns-then-marks-one : goal.returns-then-marks-one
returns-then-marks-one c =
    sym (c.loop-i.invariant ∙
    any-here c.args.marks.now (uses_at c.args.pool.now c.args.id.0) c.loop-i.i c.use_of-one.result
    c.use_of-one.ensures c.if-marks-one.true)

pub loop-i-preserved : goal.loop-i-preserved
loop-i-preserved c =
    c.loop-i.invariant ∙
    any-later c.args.marks.now (uses_at c.args.pool.now c.args.id.0) c.loop-i.i c.use_of-one.result
    c.use_of-one.ensures c.if-marks-one.false
