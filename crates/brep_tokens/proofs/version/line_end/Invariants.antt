use Rattle.std.proofs.Common.{◌≡◌, ◌≤◌, ◌+◌, ◌-◌, length, drop}
use Rattle.brep_tokens.specs.Tokens.{line_size}
use Rattle.brep_tokens.proofs.version.line_end.Given as goal

abbrev pub invariant-line : goal.invariant-line
invariant-line l = record {
  from : l.at ≤ l.end;
  to : l.end ≤ length l.bytes;
  size : l.end + line_size (drop l.end l.bytes) ≡ l.at + line_size (drop l.at l.bytes);
}

abbrev pub decreases-line : goal.decreases-line
decreases-line l = length l.bytes - l.end
