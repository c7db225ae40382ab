-- One link more.
use Rattle.key_results.proofs.WeightLaws.{joined-next, joined-deep}
use Rattle.key_results.proofs.weighing.joined.Goals as goal

pub loop-l-preserved : goal.loop-l-preserved
loop-l-preserved c = (
  λ results word m e. joined-next c.args.weights.now c.args.links.now c.loop-l.l-index _ _ results word m c.loop-l.sum
      c.both-sum.result
      c.loop-l-test.true c.requires e (c.loop-l.invariant.0 results word m e) c.both-sum.ensures.results
      c.both-sum.ensures.depth,
  λ n all. joined-deep c.args.weights.now c.args.links.now c.loop-l.l-index _ _ n c.loop-l.sum c.both-sum.result
      c.loop-l-test.true c.requires all
      (c.loop-l.invariant.1 n all) c.both-sum.ensures.depth,
)
