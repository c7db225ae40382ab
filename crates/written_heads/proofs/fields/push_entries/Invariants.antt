use Rattle.std.proofs.Common.{take}
use Rattle.written_heads.specs.Words.{entries_text}
use Rattle.written_heads.proofs.fields.push_entries.Given as goal

abbrev pub invariant-loop-entry : goal.invariant-loop-entry
invariant-loop-entry g l =
    g.B.TakesBytes.gives l.initial.text (entries_text (take l.entry-index l.entries)) l.text
