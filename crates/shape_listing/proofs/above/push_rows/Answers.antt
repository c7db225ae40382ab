-- One shape more, with those above it.
use Rattle.byte_sink.proofs.Joining.{each_all, each_more}
use Rattle.shape_listing.specs.ByNumber.{row_lines_at}
use Rattle.shape_listing.proofs.LineLaws.{among}
use Rattle.shape_listing.proofs.above.push_rows.Goals as goal

pub loop-row-init : goal.loop-row-init
loop-row-init g c = g.met.B.TakesBytes.joins.none _

pub push_row-requires-clause-low : goal.push_row-requires-clause-low
push_row-requires-clause-low g c =
    c.requires.lows _ (among c.args.rows.now c.loop-row.row-index _ c.loop-row-test.true c.row-item.is)

pub push_row-requires-clause-high : goal.push_row-requires-clause-high
push_row-requires-clause-high g c =
    c.requires.highs _ (among c.args.rows.now c.loop-row.row-index _ c.loop-row-test.true c.row-item.is)

pub loop-row-preserved : goal.loop-row-preserved
loop-row-preserved g c =
    each_more g.met.B.TakesBytes.joins (row_lines_at c.args.words.now c.args.pool.now) c.args.rows.now
    c.loop-row.row-index _ _ _ _ c.loop-row-test.true c.row-item.is c.loop-row.invariant c.push_row.ensures

pub returns : goal.returns
returns g c =
    each_all g.met.B.TakesBytes.joins (row_lines_at c.args.words.now c.args.pool.now) c.args.rows.now
    c.loop-row.row-index _ _ c.loop-row-test.false c.loop-row.invariant
