use Rattle.byte_sink.proofs.Joining.{each_all, each_more}
use Rattle.written_heads.specs.Words.{written_point}
use Rattle.written_heads.proofs.points.push_points.Goals as goal

pub loop-point-init : goal.loop-point-init
loop-point-init g c = g.met.B.TakesBytes.joins.none _

pub loop-point-preserved : goal.loop-point-preserved
loop-point-preserved g c =
    each_more g.met.B.TakesBytes.joins (written_point c.args.locations.now) c.args.points.now c.loop-point.point-index
    c.point-item.result _ _ _ c.loop-point-test.true c.point-item.is c.loop-point.invariant
    (g.met.B.TakesBytes.joins.joined _ _ _ _ _ c.push_words.ensures c.push_byte.ensures)

pub returns : goal.returns
returns g c =
    each_all g.met.B.TakesBytes.joins (written_point c.args.locations.now) c.args.points.now c.loop-point.point-index
    _ _ c.loop-point-test.false c.loop-point.invariant
