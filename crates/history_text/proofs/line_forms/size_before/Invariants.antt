use Rattle.std.proofs.Common.{◌≡◌, ℕ, ◌<◌, ◌≤◌, ◌-◌, ◌==◌, false, length}
use Rattle.std.specs.Prelude.{slice_index}
use Rattle.history_text.proofs.line_forms.size_before.Given as goal

abbrev pub invariant-bytes : goal.invariant-bytes
invariant-bytes l = record {
  fits : l.size ≤ length l.bytes;
  others : (k : ℕ) → k < l.size → (slice_index l.bytes k == l.c) ≡ false;
}

abbrev pub decreases-bytes : goal.decreases-bytes
decreases-bytes l = length l.bytes - l.size
