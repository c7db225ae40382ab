-- The low shapes so far.
use Rattle.std.proofs.Common.{◌≡◌, map, take, []}
use Rattle.subshape_maps.specs.Above.{a_row}
use Rattle.subshape_maps.proofs.above.alone.Given as goal

abbrev pub invariant-loop-i : goal.invariant-loop-i
invariant-loop-i l = l.rows.items ≡ map (λ s. a_row s []) (take l.i l.lows)
