use Rattle.std.proofs.Common.{◌≡◌, ◌≤◌, ◌-◌, length, drop}
use Rattle.brep_tokens.specs.Tokens.{runs_at}
use Rattle.brep_tokens.proofs.text_words.white_end.Given as goal

abbrev pub invariant-white : goal.invariant-white
invariant-white l = record {
  from : l.at ≤ l.end;
  to : l.end ≤ length l.bytes;
  same : runs_at l.end (drop l.end l.bytes) ≡ runs_at l.at (drop l.at l.bytes);
}

abbrev pub decreases-white : goal.decreases-white
decreases-white l = length l.bytes - l.end
