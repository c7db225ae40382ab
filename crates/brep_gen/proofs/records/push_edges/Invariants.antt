use Rattle.std.proofs.Common.{◌≡◌, ◌++◌}
use Rattle.brep_tokens.specs.Written.{lines_text}
use Rattle.brep_gen.specs.Generated.{edge_lines, in_turn}
use Rattle.brep_gen.proofs.records.push_edges.Given as goal

abbrev pub invariant-loop-j : goal.invariant-loop-j
invariant-loop-j l = l.text.items ≡ l.initial.text.items ++ lines_text (in_turn l.j (edge_lines l.n))
