use Rattle.byte_sink.proofs.Joining.{each_all, each_more}
use Rattle.written_heads.specs.Words.{written_edge_rep}
use Rattle.written_heads.proofs.edges.push_edge_reps.Goals as goal

pub loop-rep-init : goal.loop-rep-init
loop-rep-init g c = g.met.B.TakesBytes.joins.none _

pub loop-rep-preserved : goal.loop-rep-preserved
loop-rep-preserved g c =
    each_more g.met.B.TakesBytes.joins (written_edge_rep c.args.locations.now c.args.version) c.args.reps.now
    c.loop-rep.rep-index c.rep-item.result _ _ _ c.loop-rep-test.true c.rep-item.is c.loop-rep.invariant
    c.push_edge_rep.ensures

pub returns : goal.returns
returns g c =
    each_all g.met.B.TakesBytes.joins (written_edge_rep c.args.locations.now c.args.version) c.args.reps.now
    c.loop-rep.rep-index _ _ c.loop-rep-test.false c.loop-rep.invariant
