-- One low shape more.
use Rattle.std.proofs.Common.{◌∙◌, sym, ap}
use Rattle.std.specs.Prelude.{[], ◌∷◌, ◌++◌, take, map}
use Rattle.std.proofs.lemmas.List.{map-append}
use Rattle.lists.proofs.Places.{take-at}
use Rattle.subshape_maps.specs.declared.shape.ShapeAt.{ShapeAt}
use Rattle.subshape_maps.specs.Above.{a_row}
use Rattle.subshape_maps.proofs.above.alone.Goals as goal

pub loop-i-preserved : goal.loop-i-preserved
loop-i-preserved c =
    c.in-Ok.ensures.items ∙ (λ k. c.loop-i.invariant k ++ a_row c.shape_at.result (c.new.ensures k) ∷ []) ∙
    sym (map-append (λ (s : ShapeAt). a_row s []) (take c.loop-i.i c.args.lows.now) (c.shape_at.result ∷ [])) ∙
    ap (map (λ (s : ShapeAt). a_row s [])) (sym (take-at c.args.lows.now c.loop-i.i c.shape_at.result c.shape_at.ensures))
