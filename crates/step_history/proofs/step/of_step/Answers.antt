-- What is read off is the history by numbers, and so among trees.
use Rattle.std.proofs.Common.{sym, subst, List}
use Rattle.shape_pool.specs.declared.node.NodeId.{NodeId}
use Rattle.step_history.specs.Gathering.{IsReadOff}
use Rattle.step_history.specs.Numbered.{ArePairsHeld, IsHeld, IsStepAt}
use Rattle.step_history.proofs.StepLaws.{step-at, step-held}
use Rattle.step_history.proofs.TellLaws.{tells-step}
use Rattle.step_history.proofs.step.of_step.Goals as goal

pub node-requires : goal.node-requires
node-requires c = c.requires.before

pub nodes_of-requires : goal.nodes_of-requires
nodes_of-requires c = c.requires.before

pub nodes_of-requires-2 : goal.nodes_of-requires-2
nodes_of-requires-2 c = c.requires.after

pub read_off-requires : goal.read_off-requires
read_off-requires c = record {
  input = c.in_ok-input.ensures.held;
  images = subst (λ (l : List (NodeId × NodeId)). ArePairsHeld c.args.pool.now l) (sym c.as_slice-imaged.ensures) c.requires.images;
  replaced = subst (λ (l : List (NodeId × NodeId)). ArePairsHeld c.args.pool.now l) (sym c.as_slice-replacing.ensures) c.requires.replaced;
}

pub returns : goal.returns
returns c =
    let read : IsReadOff c.args.pool.now c.in_ok-input.input c.args.images.now c.args.replaced.now c.in_ok-history.history =
    subst (λ (l : List (NodeId × NodeId)). IsReadOff c.args.pool.now c.in_ok-input.input l c.args.replaced.now c.in_ok-history.history) c.as_slice-imaged.ensures
    (subst (λ (l : List (NodeId × NodeId)). IsReadOff c.args.pool.now c.in_ok-input.input c.as_slice-imaged.result.now l c.in_ok-history.history) c.as_slice-replacing.ensures
    c.in_ok-history.ensures.read) in
    let gone = c.in_ok-history.ensures.gone c.args.before.0 c.args.after.0 c.in_ok-input.ensures.below c.in_ok-output.ensures.below in
    let step : IsStepAt c.args.pool.now c.args.before.0 c.args.after.0 c.args.images.now c.args.replaced.now c.in_ok-history.history =
    step-at c.args.pool.now c.args.before.0 c.args.after.0 c.args.images.now c.args.replaced.now c.in_ok-input.input c.in_ok-history.history
    c.in_ok-input.ensures.below read gone in
    let held : IsHeld c.args.pool.now c.in_ok-history.history =
    step-held c.args.pool.now c.args.before.0 c.args.after.0 c.args.images.now c.args.replaced.now c.in_ok-input.input c.in_ok-history.history
    c.in_ok-input.ensures.below read gone c.laws.ensures c.requires.before c.requires.images c.requires.replaced in record {
      told = tells-step c.args.pool.now c.laws.ensures c.args.before.0 c.args.after.0 c.args.images.now c.args.replaced.now c.in_ok-history.history
          c.requires.before c.requires.after c.requires.images c.requires.replaced held step;
      listed = step;
      order = c.in_ok-history.ensures.order;
      held = held;
    }
