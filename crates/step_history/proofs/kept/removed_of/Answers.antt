-- What is lost is gone, whichever roots the numbers stand below.
use Rattle.step_history.proofs.StepLaws.{lost-gone}
use Rattle.step_history.proofs.kept.removed_of.Goals as goal

pub returns : goal.returns
returns c = record {
  gone = λ before after ins outs.
      lost-gone c.args.pool.now before after c.args.input.now c.args.output.now c.in_ok-firsts.firsts c.args.pairs.now c.in_ok-removed.removed
      ins outs c.in_ok-firsts.ensures c.in_ok-removed.ensures.lost;
  order = c.in_ok-removed.ensures.order;
}
