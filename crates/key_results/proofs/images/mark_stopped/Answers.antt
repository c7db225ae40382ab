-- One visit more.
use Rattle.std.proofs.Common.{◌<◌, ◌∙◌, refl, length}
use Rattle.lists.proofs.Entries.{All-place}
use Rattle.key_results.specs.declared.derive.Visit.{Visit}
use Rattle.key_results.proofs.LinkTurns.{read-at}
use Rattle.key_results.proofs.MarkTurns.{stopped-next, stopped-none, stopped-all}
use Rattle.key_results.proofs.images.mark_stopped.Goals as goal

pub loop-visit-init : goal.loop-visit-init
loop-visit-init c = record { long = refl; marked = stopped-none c.args.pool.now c.args.marks.now }

pub mark_if_stopped-requires-clause-id : goal.mark_if_stopped-requires-clause-id
mark_if_stopped-requires-clause-id c =
    let v = c.visit-item.result in
    All-place (λ (v : Visit). v.id.0 < length c.args.pool.now) c.args.visits.now c.loop-visit.visit-index v
    c.requires.held
    (read-at c.args.visits.now c.loop-visit.visit-index v c.loop-visit-test.true c.visit-item.is)

pub mark_if_stopped-requires-clause-long : goal.mark_if_stopped-requires-clause-long
mark_if_stopped-requires-clause-long c = c.loop-visit.invariant.long ∙ c.requires.long

pub loop-visit-preserved : goal.loop-visit-preserved
loop-visit-preserved c =
    let v = c.visit-item.result in
    let at = read-at c.args.visits.now c.loop-visit.visit-index v c.loop-visit-test.true c.visit-item.is in
    record {
      long = c.mark_if_stopped.ensures.long ∙ c.loop-visit.invariant.long;
      marked =
          stopped-next c.args.pool.now c.args.visits.now c.args.marks.now c.loop-visit.marks c.mark_if_stopped.new.marks
          c.loop-visit.visit-index v at
          c.mark_if_stopped.ensures.marked c.loop-visit.invariant.marked;
    }

pub returns-clause-long : goal.returns-clause-long
returns-clause-long c = c.loop-visit.invariant.long

pub returns-clause-marked : goal.returns-clause-marked
returns-clause-marked c =
    stopped-all c.args.pool.now c.args.visits.now c.args.marks.now c.loop-visit.marks c.loop-visit.visit-index
    c.loop-visit-test.false
    c.loop-visit.invariant.marked
