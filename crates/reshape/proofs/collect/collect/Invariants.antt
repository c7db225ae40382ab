-- The places from the last one on are gone through.
use Rattle.std.proofs.Common.{◌-◌, length}
use Rattle.shape_pool.specs.Rows.{tree_at, use_by}
use Rattle.key_results.specs.Words.{GrowsTo}
use Rattle.reshape.specs.Readings.{InRootSteps}
use Rattle.reshape.specs.Collecting.{AreCollectedFrom, AreFound}
use Rattle.reshape.proofs.collect.collect.Given as goal

abbrev pub invariant-loop-done : goal.invariant-loop-done
invariant-loop-done l = record {
  found : AreFound l.pool (length l.words) l.plan.nodes l.found.keys.keys l.found.at.items l.found.worded;
  grows : GrowsTo l.fn.words l.words;
  collected : InRootSteps l.pool (length l.fn.words) l.fn.root.id.0 l.plan l.words (λ s word.
      AreCollectedFrom l.pool s word (use_by word (tree_at word l.pool) l.fn.root) l.found.keys.keys l.found.at.items
      (length l.plan.nodes - l.done));
}
