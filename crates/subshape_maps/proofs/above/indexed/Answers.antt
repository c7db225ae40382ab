-- One shape more.
use Rattle.std.proofs.Common.{◌∙◌, sym, ap}
use Rattle.std.specs.Prelude.{List, [], ◌∷◌, take}
use Rattle.std.proofs.lemmas.List.Sums.{fold-append}
use Rattle.lists.proofs.Places.{take-at}
use Rattle.subshape_maps.specs.declared.shape.ShapeAt.{ShapeAt}
use Rattle.subshape_maps.specs.Shapes.{with_new, first_places}
use Rattle.subshape_maps.specs.Numbered.{at_eq}
use Rattle.subshape_maps.proofs.above.indexed.Goals as goal

pub loop-i-preserved : goal.loop-i-preserved
loop-i-preserved c =
    c.in-Ok.ensures.keys ∙ ap (λ (l : List ShapeAt). with_new at_eq l c.shape_at.result) c.loop-i.invariant ∙
    sym (fold-append (with_new at_eq) [] (take c.loop-i.i c.args.shapes.now) (c.shape_at.result ∷ [])) ∙
    ap (first_places at_eq) (sym (take-at c.args.shapes.now c.loop-i.i c.shape_at.result c.shape_at.ensures))
