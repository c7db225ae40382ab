use Rattle.std.proofs.Common.{take}
use Rattle.written_layout.specs.Layout.{datums_text}
use Rattle.written_layout.proofs.locations.push_datums.Given as goal

abbrev pub invariant-loop-entry : goal.invariant-loop-entry
invariant-loop-entry g l =
    g.B.TakesBytes.gives l.initial.text (datums_text (take l.entry-index l.entry-items)) l.text
