use Rattle.std.proofs.Common.{◌≡◌, ◌≤◌, ◌+◌, ◌==◌, if◌then◌else◌, drop, false}
use Rattle.std.specs.Prelude.{count_by}
use Rattle.script_text.specs.Lines.{leaves_open}
use Rattle.script_text.proofs.lines.counted.Given as goal

abbrev pub invariant-bytes : goal.invariant-bytes
invariant-bytes l = record {
  short : l.count + (if l.open then 1 else 0) ≤ l.b-index;
  counts : l.count + count_by (λ b. b == 10) (drop l.b-index l.bytes) ≡ count_by (λ b. b == 10) l.bytes;
  opens : leaves_open l.open (drop l.b-index l.bytes) ≡ leaves_open false l.bytes;
}
