use Rattle.std.proofs.Common.{take}
use Rattle.std.specs.List.{flat_map}
use Rattle.brep_tokens.specs.Written.{line_text}
use Rattle.written_layout.proofs.tables.push_section.Given as goal

abbrev pub invariant-loop-entry : goal.invariant-loop-entry
invariant-loop-entry g l =
    g.B.TakesBytes.gives l.initial.text
    (flat_map (λ e. line_text (g.T.TableEntry.spelling e)) (take l.entry-index l.entries)) l.text
