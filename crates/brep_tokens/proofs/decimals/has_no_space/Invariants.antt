use Rattle.brep_tokens.specs.Spaced.{texts}
use Rattle.std.proofs.Common.{◌≡◌, ◌≤◌, ◌-◌, length, drop}
use Rattle.brep_tokens.proofs.decimals.has_no_space.Given as goal

abbrev pub invariant-bytes : goal.invariant-bytes
invariant-bytes l = record {
  to : l.at ≤ length l.text;
  same : texts l.text ≡ texts (drop l.at l.text);
}

abbrev pub decreases-bytes : goal.decreases-bytes
decreases-bytes l = length l.text - l.at
