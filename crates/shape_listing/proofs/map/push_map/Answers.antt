-- The lines are those of the map.
use Rattle.std.proofs.Common.{◌∙◌, ap, subst, sym}
use Rattle.std.specs.Prelude.{List, []}
use Rattle.byte_sink.proofs.Joining.{as_text}
use Rattle.lists.proofs.Errors.{IfErr-on}
use Rattle.subshape_maps.specs.declared.shape.ShapeAt.{ShapeAt}
use Rattle.subshape_maps.specs.Numbered.{occurrences_by, root_at, AreHeld}
use Rattle.shape_listing.specs.ByNumber.{lines_at}
use Rattle.shape_listing.specs.Causes.{meeting_due, of_map, IsDue}
use Rattle.shape_listing.proofs.CauseLaws.{map-refused, none-due}
use Rattle.shape_listing.proofs.MapLaws.{map-lines}
use Rattle.shape_listing.proofs.map.push_map.Goals as goal

pub push_all-requires : goal.push_all-requires
push_all-requires g c =
    subst (λ (l : List ShapeAt). AreHeld c.map_shapes.new.words c.args.pool.now l) (sym c.as_slice.ensures)
    c.in_ok-shapes.ensures.map.held

pub returns-clause-text : goal.returns-clause-text
returns-clause-text g c kind are =
    as_text g.met.B.TakesBytes.joins _ _ _ _
    c.push_all.ensures
    (ap (lines_at c.map_shapes.new.words c.args.pool.now) c.as_slice.ensures
    ∙ map-lines c.args.pool.now c.laws.ensures c.args.words.now c.map_shapes.new.words c.in_ok-shapes.ensures.grows
    c.requires.places c.args.root c.requires.root c.requires.place c.args.asked _ c.in_ok-shapes.ensures.map kind are)

pub returns-clause-within : goal.returns-clause-within
returns-clause-within g c = none-due _ _ c.in_ok-shapes.ensures.within

pub returns-in_err-shapes-clause-refused : goal.returns-in_err-shapes-clause-refused
returns-in_err-shapes-clause-refused g c =
    let shapes = occurrences_by c.args.words.now c.args.pool.now (root_at c.args.root) in
    IfErr-on c.from_residual.result (of_map c.in_err-shapes.field-0.0) (IsDue (meeting_due [] shapes))
    c.from_residual.ensures.1
    (map-refused shapes c.in_err-shapes.field-0.0 c.in_err-shapes.ensures.refused)
