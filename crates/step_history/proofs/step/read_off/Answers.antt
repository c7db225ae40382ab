-- What is gathered, list by list.
use Rattle.std.proofs.Common.{subst, List}
use Rattle.shape_pool.specs.declared.node.NodeId.{NodeId}
use Rattle.step_history.specs.Numbered.{AreGone}
use Rattle.step_history.proofs.step.read_off.Goals as goal

pub images_of-requires : goal.images_of-requires
images_of-requires c = c.requires.images

pub removed_of-requires : goal.removed_of-requires
removed_of-requires c = c.requires.input

pub made_of-requires : goal.made_of-requires
made_of-requires c = c.requires.replaced

pub returns : goal.returns
returns c = record {
  read = record {
    fresh = c.in_ok-fresh.fresh;
    keeps = c.in_ok-kept.ensures.kept;
    news = c.in_ok-fresh.ensures;
    mades = c.in_ok-generated.ensures.made;
  };
  gone = λ before after ins outs.
      subst (λ (l : List (NodeId × NodeId)). AreGone c.args.pool.now before after l c.in_ok-removed.removed) c.as_slice-pairs.ensures
      (c.in_ok-removed.ensures.gone before after ins outs);
  order = record { images = c.in_ok-kept.ensures.order; generated = c.in_ok-generated.ensures.order; removed = c.in_ok-removed.ensures.order };
}
