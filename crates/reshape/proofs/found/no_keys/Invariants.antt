-- No keys at the places so far.
use Rattle.std.proofs.Common.{◌≡◌, ℕ, [], length}
use Rattle.reshape.specs.Collecting.{keys_at}
use Rattle.reshape.proofs.found.no_keys.Given as goal

abbrev pub invariant-loop-done : goal.invariant-loop-done
invariant-loop-done l = (length l.at.items ≡ l.done) × ((p : ℕ) → keys_at l.at.items p ≡ [])
