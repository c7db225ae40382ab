use Rattle.std.proofs.Common.{◌≡◌}
use Rattle.std.specs.List.{join_with_byte}
use Rattle.written_layout.proofs.TableLines.{is_none}
use Rattle.written_layout.proofs.tables.push_line.Given as goal

abbrev pub invariant-loop-token : goal.invariant-loop-token
invariant-loop-token g l = record {
  given : g.B.TakesBytes.gives l.initial.text (join_with_byte 32 l.yielded) l.text;
  first : l.first ≡ is_none l.yielded;
}
