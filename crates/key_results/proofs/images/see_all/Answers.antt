-- One number more.
use Rattle.std.proofs.Common.{arith, ◌≡◌, ◌+◌, ◌-◌, ◌∙◌, length}
use Rattle.shape_pool.specs.declared.node.NodeId.{NodeId}
use Rattle.key_results.proofs.MarkTurns.{seen-none, seen-next, seen-all}
use Rattle.key_results.proofs.images.see_all.Goals as goal

pub loop-done-init : goal.loop-done-init
loop-done-init c =
    seen-none c.args.pool.now c.args.visits.now c.args.pairs.now.items c.args.marks.now c.mark_stopped.new.marks
    (c.mark_stopped.ensures.long ∙ c.requires.long) c.requires.clear c.mark_stopped.ensures.marked

pub see-requires-clause-id : goal.see-requires-clause-id
see-requires-clause-id c = omega (arith, c.loop-done-test.true, c.mark-count.ensures)

pub see-requires-clause-long : goal.see-requires-clause-long
see-requires-clause-long c = c.loop-done.invariant.long

pub loop-done-preserved : goal.loop-done-preserved
loop-done-preserved c =
    let id : NodeId = record { 0 = c.mark-count.result - 1 - c.loop-done.done } in
    let here : c.mark-count.result - 1 - c.loop-done.done + (c.loop-done.done + 1) ≡ length c.args.pool.now =
    omega (arith, c.loop-done-test.true, c.mark-count.ensures) in
    seen-next c.args.pool.now c.laws.ensures.uses_are_earlier c.args.visits.now c.args.pairs.now.items c.loop-done.done
    c.loop-done.marks c.see.new.marks
    c.loop-done.pairs.items c.see.new.pairs.items id here c.in_ok-see.ensures.long c.in_ok-see.ensures.marked
    c.in_ok-see.ensures.pairs c.loop-done.invariant

pub returns : goal.returns
returns c =
    seen-all c.args.pool.now c.laws.ensures.uses_are_earlier c.args.visits.now c.args.pairs.now.items c.loop-done.done
    c.loop-done.marks c.loop-done.pairs.items
    (omega (arith, c.loop-done-test.false, c.mark-count.ensures)) c.loop-done.invariant
