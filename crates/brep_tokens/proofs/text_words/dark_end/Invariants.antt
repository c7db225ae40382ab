use Rattle.std.proofs.Common.{◌≡◌, ℕ, ◌≤◌, ◌<◌, ◌-◌, length, get_or, false}
use Rattle.brep_tokens.specs.Bytes.{is_white}
use Rattle.brep_tokens.proofs.text_words.dark_end.Given as goal

abbrev pub invariant-dark : goal.invariant-dark
invariant-dark l = record {
  from : l.at ≤ l.end;
  to : l.end ≤ length l.bytes;
  dark : (k : ℕ) → l.at ≤ k → k < l.end → is_white (get_or l.bytes k 0) ≡ false;
}

abbrev pub decreases-dark : goal.decreases-dark
decreases-dark l = length l.bytes - l.end
