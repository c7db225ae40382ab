-- The pairs of numbers and themselves are the history over no step.
use Rattle.step_history.specs.declared.history.StepHistory.{StepHistory}
use Rattle.step_history.specs.Numbered.{id_cmp, pair_cmp}
use Rattle.history_merge.proofs.StartLaws.{sorted-nothing, start-at, start-held, start-tells}
use Rattle.history_merge.proofs.no_step.start.Goals as goal

pub stays_of-requires : goal.stays_of-requires
stays_of-requires c = c.in_ok-input.ensures.held

pub returns : goal.returns
returns c =
    let h : StepHistory = record { images = c.in_ok-images.images; generated = c.new-generated.result; removed = c.new-removed.result } in
    let at = start-at c.args.pool.now c.args.root.0 c.in_ok-input.input h c.in_ok-input.ensures.below c.in_ok-images.ensures.stays c.new-generated.ensures c.new-removed.ensures in
    record {
      told = start-tells c.args.pool.now c.laws.ensures c.args.root.0 c.requires h at;
      listed = at;
      order = record {
        images = c.in_ok-images.ensures.order;
        generated = sorted-nothing pair_cmp c.new-generated.result c.new-generated.ensures;
        removed = sorted-nothing id_cmp c.new-removed.result c.new-removed.ensures;
      };
      held = start-held c.args.pool.now c.laws.ensures c.args.root.0 c.requires h at;
    }
