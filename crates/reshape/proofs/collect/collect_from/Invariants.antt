-- The uses so far are gone through.
use Rattle.std.proofs.Common.{Contains, length, take}
use Rattle.shape_pool.specs.declared.node.UseOf.{UseOf}
use Rattle.key_results.specs.declared.key.Key.{Key}
use Rattle.key_results.specs.Words.{GrowsTo}
use Rattle.reshape.specs.Readings.{InAnySteps}
use Rattle.reshape.specs.Collecting.{AreFound, IsCollected, IsDemanded}
use Rattle.reshape.proofs.collect.collect_from.Given as goal

abbrev pub invariant-loop-i : goal.invariant-loop-i
invariant-loop-i l = record {
  found : AreFound l.pool (length l.words) l.plan.nodes l.found.keys.keys l.found.at.items l.found.worded;
  more : (k : Key) → Contains l.fn.found.keys.keys k → Contains l.found.keys.keys k;
  grows : GrowsTo l.initial.words l.words;
  collects : InAnySteps l.pool (length l.fn.words) l.plan l.words (λ s word.
      ((u : UseOf) → Contains l.asked.uses.items u → IsDemanded l.pool s word l.key l.asked.mover u) →
      IsCollected l.pool s word l.plan.nodes l.key l.asked.mover (take l.i l.asked.uses.items)
      l.fn.found.keys.keys l.fn.found.at.items l.found.keys.keys l.found.at.items);
}
