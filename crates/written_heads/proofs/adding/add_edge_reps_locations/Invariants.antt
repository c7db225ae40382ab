use Rattle.std.proofs.Common.{take}
use Rattle.std.specs.List.{flat_map}
use Rattle.written_heads.specs.Named.{edge_locations}
use Rattle.written_locations.specs.Added.{Adds}
use Rattle.written_heads.proofs.adding.add_edge_reps_locations.Given as goal

abbrev pub invariant-loop-rep : goal.invariant-loop-rep
invariant-loop-rep l = Adds (flat_map edge_locations (take l.rep-index l.reps)) l.initial.locations l.locations
