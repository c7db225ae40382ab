-- The visits of the keys so far.
use Rattle.std.proofs.Common.{◌≡◌, ℕ, length, slice_get, Some}
use Rattle.key_results.specs.declared.derive.Visit.{Visit}
use Rattle.key_results.specs.declared.key.Key.{Key}
use Rattle.key_results.specs.Words.{GrowsTo}
use Rattle.key_results.specs.Derivations.{ArePlaced, AreVisitsHeld}
use Rattle.key_results.specs.Derived.{IsVisitOf}
use Rattle.reshape.specs.Readings.{InAnySteps}
use Rattle.reshape.specs.Collecting.{AreBottomUp}
use Rattle.reshape.proofs.link.visits_of.Given as goal

abbrev pub invariant-loop-i : goal.invariant-loop-i
invariant-loop-i l = record {
  grows : GrowsTo l.fn.words l.words;
  long : length l.visits.items ≡ l.i;
  each : InAnySteps l.pool (length l.fn.words) l.plan l.words (λ s word. AreBottomUp l.pool s word l.keys.keys →
      (k : ℕ) (from : Key) (v : Visit) → slice_get l.keys.keys k ≡ Some from → slice_get l.visits.items k ≡ Some v →
      IsVisitOf s word l.pool l.keys.keys from k v);
  held : AreVisitsHeld l.pool l.visits.items;
  placed : ArePlaced (length l.words) l.visits.items;
}
