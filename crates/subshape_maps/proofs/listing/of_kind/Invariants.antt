-- Those of the shapes so far.
use Rattle.std.proofs.Common.{◌≡◌, take}
use Rattle.std.specs.List.{filter}
use Rattle.subshape_maps.specs.Numbered.{is_asked_at}
use Rattle.subshape_maps.proofs.listing.of_kind.Given as goal

abbrev pub invariant-loop-i : goal.invariant-loop-i
invariant-loop-i l = l.shapes ≡ filter (is_asked_at l.pool l.kind) (take l.i l.seen.keys)
