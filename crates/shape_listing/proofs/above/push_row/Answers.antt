use Rattle.std.proofs.Common.{ap, subst, sym}
use Rattle.std.specs.Prelude.{List}
use Rattle.subshape_maps.specs.declared.shape.ShapeAt.{ShapeAt}
use Rattle.subshape_maps.specs.Numbered.{AreHeld}
use Rattle.shape_listing.specs.ByNumber.{high_lines_at, line_at}
use Rattle.byte_sink.proofs.Joining.{in_two}
use Rattle.std.specs.Prelude.{◌++◌}
use Rattle.shape_listing.proofs.above.push_row.Goals as goal

pub push_high-requires : goal.push_high-requires
push_high-requires g c =
    subst (λ (l : List ShapeAt). AreHeld c.args.words.now c.args.pool.now l) (sym c.as_slice.ensures) c.requires.high

pub returns : goal.returns
returns g c =
    in_two g.met.B.TakesBytes.joins _ _ _ _ _ _
    c.push_at.ensures
    c.push_high.ensures
    (ap (λ (l : List ShapeAt). line_at c.args.words.now c.args.pool.now c.args.row.now.low
    ++ high_lines_at c.args.words.now c.args.pool.now l) c.as_slice.ensures)
