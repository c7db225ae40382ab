-- The shapes so far.
use Rattle.std.proofs.Common.{◌≡◌, take}
use Rattle.subshape_maps.specs.Shapes.{first_places}
use Rattle.subshape_maps.specs.Numbered.{at_eq}
use Rattle.subshape_maps.proofs.above.indexed.Given as goal

abbrev pub invariant-loop-i : goal.invariant-loop-i
invariant-loop-i l = l.index.keys ≡ first_places at_eq (take l.i l.shapes)
