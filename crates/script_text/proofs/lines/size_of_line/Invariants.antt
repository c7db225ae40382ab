use Rattle.std.proofs.Common.{◌≡◌, ◌≤◌, ◌+◌, ◌-◌, length, drop}
use Rattle.script_text.specs.Lines.{line_size}
use Rattle.script_text.proofs.lines.size_of_line.Given as goal

abbrev pub invariant-line : goal.invariant-line
invariant-line l = record {
  fits : l.size ≤ length l.bytes;
  counts : l.size + line_size (drop l.size l.bytes) ≡ line_size l.bytes;
}

abbrev pub decreases-line : goal.decreases-line
decreases-line l = length l.bytes - l.size
