use Rattle.std.proofs.Common.{take}
use Rattle.std.specs.List.{flat_map}
use Rattle.shape_listing.specs.Lines.{factor_text}
use Rattle.shape_listing.proofs.lines.push_shape.Given as goal

abbrev pub invariant-loop-pair : goal.invariant-loop-pair
invariant-loop-pair g l =
    g.B.TakesBytes.gives l.initial.text (flat_map factor_text (take l.pair-index l.word)) l.text
