use Rattle.std.proofs.Common.{take}
use Rattle.std.specs.List.{flat_map}
use Rattle.written_heads.specs.Words.{written_edge_rep}
use Rattle.written_heads.proofs.edges.push_edge_reps.Given as goal

abbrev pub invariant-loop-rep : goal.invariant-loop-rep
invariant-loop-rep g l =
    g.B.TakesBytes.gives l.initial.text (flat_map (written_edge_rep l.locations l.version) (take l.rep-index l.reps))
    l.text
