-- Each pair goes in the other way round.
use Rattle.std.proofs.Common.{refl, arith, slice_index_or, subst}
use Rattle.std.specs.Prelude.{Contains}
use Rattle.shape_pool.specs.declared.node.NodeId.{NodeId}
use Rattle.history_merge.specs.Joined.{IsFlipped}
use Rattle.lists.proofs.Gathering.{adds-one, gathers-all, gathers-none, gathers-out, gathers-step}
use Rattle.history_merge.proofs.JoinLaws.{any_pair}
use Rattle.history_merge.proofs.joined.flipped.Goals as goal

pub loop-pair-init : goal.loop-pair-init
loop-pair-init c = gathers-none IsFlipped c.new-out.result.items c.new-out.ensures.items

pub loop-pair-preserved : goal.loop-pair-preserved
loop-pair-preserved c =
    let pair : NodeId × NodeId = slice_index_or c.args.pairs.now c.loop-pair.pair-index any_pair in
    gathers-step IsFlipped c.args.pairs.now c.loop-pair.pair-index any_pair c.loop-pair.out.items c.push.new.self.items (omega (arith, c.loop-pair-test.true)) c.loop-pair.invariant
    (adds-one (IsFlipped pair) c.loop-pair.out.items c.push.new.self.items (pair.1, pair.0) c.in_ok-push.ensures.items (refl, refl)
    (λ y q. (let a = q.0 in let b = q.1 in (λ i. (a i, b i)))))

pub returns : goal.returns
returns c =
    let g = gathers-out IsFlipped c.args.pairs.now c.loop-pair.out.items c.ascending_pairs.result
    (gathers-all IsFlipped c.args.pairs.now c.loop-pair.pair-index c.loop-pair.out.items (omega (arith, c.loop-pair-test.false)) c.loop-pair.invariant)
    c.ascending_pairs.ensures.same in
    record {
      order = c.ascending_pairs.ensures.order;
      same = λ a b. (
        (λ m. (let h = (g (a, b)).0 m in let p : NodeId × NodeId = h.0 in let w = h.2 in
            let e = w.0 in let f = w.1 in
            subst (λ (z : NodeId × NodeId). Contains c.args.pairs.now z) (λ i. (f i, e i)) h.1)),
        (λ m. (g (a, b)).1 ((b, a), m, (refl, refl))),
      );
    }
