use Rattle.std.proofs.Common.{take}
use Rattle.std.specs.List.{flat_map}
use Rattle.written_heads.specs.Named.{point_locations}
use Rattle.written_locations.specs.Added.{Adds}
use Rattle.written_heads.proofs.adding.add_point_locations.Given as goal

abbrev pub invariant-loop-point : goal.invariant-loop-point
invariant-loop-point l = Adds (flat_map point_locations (take l.point-index l.points)) l.initial.locations l.locations
