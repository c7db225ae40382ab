-- One more node.
use Rattle.std.proofs.Common.{◌≡◌, take, slice_index_or, arith}
use Rattle.graph_walks.specs.Walks.{rank_over}
use Rattle.graph_walks.proofs.RankLaws.{rank-step}
use Rattle.graph_walks.proofs.ranking.over.Goals as goal
use Rattle.graph_walks.proofs.ranking.over.Goals.{then-rank-next, else-rank-next}

pub loop-y-preserved : goal.loop-y-preserved
loop-y-preserved c =
    let more = rank-step (λ y. slice_index_or c.args.ranks.now y 0) c.args.ends.now c.loop-y.y-index 0
    c.loop-y-test.true in
    let before : c.loop-y.rank ≡ rank_over (λ y. slice_index_or c.args.ranks.now y 0)
    (take c.loop-y.y-index c.args.ends.now) =
    c.loop-y.invariant in
    elim c.if-rank-next.branch [
      | then-rank-next w ↦ omega (arith, more, before, w.rank-is, w.if-rank-next.true)
      | else-rank-next w ↦ omega (arith, more, before, w.rank-is, w.if-rank-next.false)
    ]
