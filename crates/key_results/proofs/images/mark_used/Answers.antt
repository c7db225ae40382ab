-- One use more.
use Rattle.std.proofs.Common.{arith, ◌<◌, ◌∙◌, true, refl, length, set}
use Rattle.std.proofs.lemmas.List.{length-set}
use Rattle.shape_pool.specs.Laws.{ids_used}
use Rattle.key_results.proofs.MarkTurns.{mark-set, used-next, used-none, used-all}
use Rattle.key_results.proofs.images.mark_used.Goals as goal

pub loop-at-init : goal.loop-at-init
loop-at-init c = record { long = refl; marked = used-none c.args.marks.now }

pub used_at-requires-clause-at : goal.used_at-requires-clause-at
used_at-requires-clause-at c = omega (arith, c.use_count-at-end.ensures, c.loop-at-test.true)

pub bounds-marks-used_at : goal.bounds-marks-used_at
bounds-marks-used_at c =
    let same = c.loop-at.invariant.long in
    let held = c.used_at.ensures.held in
    omega (arith, held, same, c.requires.long)

pub loop-at-preserved : goal.loop-at-preserved
loop-at-preserved c =
    let ids = ids_used c.args.pool.now c.args.id.0 in
    let j = c.used_at.result.0 in
    let same = c.loop-at.invariant.long in
    let held = c.used_at.ensures.held in
    let within : j < length c.loop-at.marks = omega (arith, held, same, c.requires.long) in
    record {
      long = length-set c.loop-at.marks j true ∙ c.loop-at.invariant.long;
      marked =
          used-next c.args.marks.now c.loop-at.marks (set c.loop-at.marks j true) ids c.loop-at.at j
          c.used_at.ensures.id
          (mark-set c.loop-at.marks j within) c.loop-at.invariant.marked;
    }

pub returns-clause-long : goal.returns-clause-long
returns-clause-long c = c.loop-at.invariant.long

pub returns-clause-marked : goal.returns-clause-marked
returns-clause-marked c =
    used-all c.args.marks.now c.loop-at.marks (ids_used c.args.pool.now c.args.id.0) c.loop-at.at
    (omega (arith, c.use_count-at-end.ensures, c.loop-at-test.false)) c.loop-at.invariant.marked
