-- The keys of the place so far are gone through.
use Rattle.std.proofs.Common.{◌≡◌, ◌≤◌, ℕ, Contains, length, take}
use Rattle.expansion_laws.specs.Trees.{Use}
use Rattle.key_results.specs.declared.key.Key.{Key}
use Rattle.key_results.specs.Words.{GrowsTo}
use Rattle.reshape.specs.Readings.{InAnySteps}
use Rattle.reshape.specs.Collecting.{keys_at, AreFound, AreOfStep, HasAsked}
use Rattle.reshape.proofs.collect.collect_at.Given as goal

abbrev pub invariant-loop-i : goal.invariant-loop-i
invariant-loop-i l = record {
  found : AreFound l.pool (length l.words) l.plan.nodes l.found.keys.keys l.found.at.items l.found.worded;
  more : (k : Key) → Contains l.fn.found.keys.keys k → Contains l.found.keys.keys k;
  later : (q : ℕ) → l.at ≤ q → keys_at l.found.at.items q ≡ keys_at l.fn.found.at.items q;
  grows : GrowsTo l.fn.words l.words;
  has : InAnySteps l.pool (length l.fn.words) l.plan l.words (λ s word.
      (k : Key) → Contains (take l.i (keys_at l.fn.found.at.items l.at)) k →
      HasAsked l.pool s word l.found.keys.keys k);
  sound : InAnySteps l.pool (length l.fn.words) l.plan l.words (λ s word.
      (r : Use) → AreOfStep l.pool s word r l.fn.found.keys.keys → AreOfStep l.pool s word r l.found.keys.keys);
}
