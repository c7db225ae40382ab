use Rattle.std.proofs.Common.{take}
use Rattle.std.specs.List.{flat_map}
use Rattle.written_heads.specs.Words.{written_point}
use Rattle.written_heads.proofs.points.push_points.Given as goal

abbrev pub invariant-loop-point : goal.invariant-loop-point
invariant-loop-point g l =
    g.B.TakesBytes.gives l.initial.text (flat_map (written_point l.locations) (take l.point-index l.points)) l.text
