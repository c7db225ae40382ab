use Rattle.std.proofs.Common.{◌≡◌, ◌++◌}
use Rattle.brep_tokens.specs.Written.{lines_text}
use Rattle.brep_gen.specs.Generated.{in_turn, vertex_lines}
use Rattle.brep_gen.proofs.records.push_vertices.Given as goal

abbrev pub invariant-loop-j : goal.invariant-loop-j
invariant-loop-j l = l.text.items ≡ l.initial.text.items ++ lines_text (in_turn l.j vertex_lines)
