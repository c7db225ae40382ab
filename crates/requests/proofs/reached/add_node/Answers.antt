-- One end more.
use Rattle.std.proofs.Common.{sym, subst, arith, take, length, slice_index_or}
use Rattle.std.proofs.lemmas.List.{take_more}
use Rattle.requests.specs.Reached.{AreMet, HasOneMore}
use Rattle.requests.proofs.ReachedLaws.{few-met, inserted, one-end}
use Rattle.requests.proofs.reached.add_node.Goals as goal

pub overflow_cast-place : goal.overflow_cast-place
overflow_cast-place c =
    let n = length c.args.pool.now in
    let x = slice_index_or c.args.ends.now c.loop-end.end-index 0 in
    let more = inserted n x c.loop-end.nodes.keys c.loop-end.invariant.are_met
    (c.requires.ends c.loop-end.end-index 0 c.loop-end-test.true) in
    let few = few-met n c.insert_full.new.self.keys (subst (AreMet n) (sym c.in_ok-place.ensures.keys) more.2) in
    let within = c.in_ok-place.ensures.within in
    let limit = c.laws.ensures.few in
    omega (arith, few, within, limit)

pub loop-end-preserved : goal.loop-end-preserved
loop-end-preserved c =
    let n = length c.args.pool.now in
    let x = slice_index_or c.args.ends.now c.loop-end.end-index 0 in
    let stored = c.in_ok-place.ensures.stored in
    subst (λ l. HasOneMore n l c.args.nodes.now.keys c.args.graph.now c.insert_full.new.self.keys c.add_end.new.self)
    (sym (take_more c.args.ends.now c.loop-end.end-index 0 c.loop-end-test.true))
    (one-end n x c.in_ok-place.place stored.0 (take c.loop-end.end-index c.args.ends.now) c.args.nodes.now.keys c.args.graph.now
    c.loop-end.nodes.keys c.loop-end.graph c.insert_full.new.self.keys c.add_end.new.self c.loop-end.invariant
    (c.requires.ends c.loop-end.end-index 0 c.loop-end-test.true) c.in_ok-place.ensures.keys stored.1 stored.2 c.in_ok-add_end.ensures.last)
