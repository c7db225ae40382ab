-- The links of the uses so far.
use Rattle.std.proofs.Common.{◌<◌, All, length, take}
use Rattle.key_results.specs.Words.{GrowsTo}
use Rattle.reshape.specs.Readings.{InAnySteps}
use Rattle.reshape.specs.Collecting.{AreLinksTo, HaveKeysFrom}
use Rattle.reshape.proofs.link.links_of.Given as goal

abbrev pub invariant-loop-i : goal.invariant-loop-i
invariant-loop-i l = record {
  grows : GrowsTo l.fn.words l.words;
  links : InAnySteps l.pool (length l.fn.words) l.plan l.words (λ s word.
      HaveKeysFrom l.pool s word l.keys.keys l.from l.asked.mover l.asked.uses.items →
      AreLinksTo l.pool s word l.keys.keys l.from l.asked.mover (take l.i l.asked.uses.items) l.links.items);
  placed : All (λ k. k.place.0 < length l.fn.words) l.links.items;
}
