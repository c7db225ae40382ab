use Rattle.std.proofs.Common.{◌≡◌, ◌≤◌, ◌+◌, ◌-◌, true, length, drop}
use Rattle.brep_tokens.specs.Tokens.{head_at}
use Rattle.brep_tokens.proofs.version.head.Given as goal

abbrev pub invariant-lines : goal.invariant-lines
invariant-lines l = record {
  to : l.at ≤ length l.bytes;
  line : l.line ≤ l.at + 1;
  same : head_at l.start l.line l.at (drop l.at l.bytes) ≡ head_at true 1 0 l.bytes;
}

abbrev pub decreases-lines : goal.decreases-lines
decreases-lines l = length l.bytes - l.at
