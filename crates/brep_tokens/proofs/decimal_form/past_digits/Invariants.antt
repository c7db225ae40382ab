use Rattle.brep_tokens.specs.Forms.{after_digits}
use Rattle.std.proofs.Common.{◌≡◌, ◌≤◌, ◌-◌, length, drop}
use Rattle.brep_tokens.proofs.decimal_form.past_digits.Given as goal

abbrev pub invariant-digits : goal.invariant-digits
invariant-digits l = record {
  to : l.at ≤ length l.text;
  same : after_digits (drop l.at l.text) ≡ after_digits l.text;
}

abbrev pub decreases-digits : goal.decreases-digits
decreases-digits l = length l.text - l.at
