-- One shape more.
use Rattle.std.proofs.lemmas.List.{get_or_default}
use Rattle.byte_sink.proofs.Joining.{each_all, each_more}
use Rattle.shape_listing.specs.ByNumber.{high_line_at}
use Rattle.shape_listing.proofs.LineLaws.{among}
use Rattle.shape_listing.proofs.above.push_high.Goals as goal

pub loop-at-init : goal.loop-at-init
loop-at-init g c = g.met.B.TakesBytes.joins.none _

pub push_at-requires : goal.push_at-requires
push_at-requires g c =
    c.requires _ (among c.args.shapes.now c.loop-at.at-index _ c.loop-at-test.true
    (get_or_default c.args.shapes.now c.loop-at.at-index _ _ c.loop-at-test.true))

pub loop-at-preserved : goal.loop-at-preserved
loop-at-preserved g c =
    let joins = g.met.B.TakesBytes.joins in
    each_more joins (high_line_at c.args.words.now c.args.pool.now) c.args.shapes.now c.loop-at.at-index
    _ _ _ _ c.loop-at-test.true
    (get_or_default c.args.shapes.now c.loop-at.at-index _ _ c.loop-at-test.true) c.loop-at.invariant
    (joins.joined _ _ _ _ _ c.push.ensures c.push_at.ensures)

pub returns : goal.returns
returns g c =
    each_all g.met.B.TakesBytes.joins (high_line_at c.args.words.now c.args.pool.now) c.args.shapes.now
    c.loop-at.at-index _ _ c.loop-at-test.false c.loop-at.invariant
