use Rattle.written_heads.specs.Named.{edge_locations}
use Rattle.written_heads.proofs.LocationLemmas.{adds_more}
use Rattle.written_heads.proofs.adding.add_edge_reps_locations.Goals as goal

pub loop-rep-preserved : goal.loop-rep-preserved
loop-rep-preserved c =
    adds_more c.added_parts_join.ensures edge_locations c.args.reps.now c.loop-rep.rep-index c.rep-item.result
    c.args.locations.now c.loop-rep.locations c.add_edge_rep_locations.new.locations
    c.loop-rep-test.true c.rep-item.is c.loop-rep.invariant c.in_ok-add_edge_rep_locations.ensures
