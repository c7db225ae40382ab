use Rattle.std.proofs.Common.{take}
use Rattle.std.specs.List.{flat_map}
use Rattle.written_layout.specs.Layout.{pair_text}
use Rattle.written_layout.proofs.locations.push_word.Given as goal

abbrev pub invariant-loop-pair : goal.invariant-loop-pair
invariant-loop-pair g l =
    g.B.TakesBytes.gives l.initial.text (flat_map pair_text (take l.pair-index l.pairs)) l.text
