use Rattle.std.proofs.Common.{◌∙◌, ◌∷◌, [], ap, refl, sym}
use Rattle.byte_sink.proofs.Joining.{as_text}
use Rattle.written_heads.specs.Words.{IsWritten, written_numbers}
use Rattle.written_heads.proofs.LocationLemmas.{named}
use Rattle.written_heads.proofs.PieceLemmas.{located_spaced}
use Rattle.written_heads.proofs.edges.push_polygon_columns.Goals as goal

pub push_located-requires-clause-written : goal.push_located-requires-clause-written
push_located-requires-clause-written g c =
    named (IsWritten c.args.locations.now) _ _ c.in-Polygon.location [] c.in-Polygon.is refl c.requires.named

pub push_located-requires-in-PolygonOn-clause-written : goal.push_located-requires-in-PolygonOn-clause-written
push_located-requires-in-PolygonOn-clause-written g c =
    named (IsWritten c.args.locations.now) _ _ c.in-PolygonOn.location [] c.in-PolygonOn.is refl c.requires.named

pub push_located-requires-in-SeamPolygons-clause-written : goal.push_located-requires-in-SeamPolygons-clause-written
push_located-requires-in-SeamPolygons-clause-written g c =
    named (IsWritten c.args.locations.now) _ _ c.in-SeamPolygons.location [] c.in-SeamPolygons.is refl c.requires.named

pub returns-in-Polygon : goal.returns-in-Polygon
returns-in-Polygon g c =
    as_text g.met.B.TakesBytes.joins _ _ _ _
    c.push_located.ensures
    (located_spaced (c.in-Polygon.polygon ∷ []) _ ∙ ap (written_numbers c.args.locations.now) (sym c.in-Polygon.is))

pub returns-in-PolygonOn : goal.returns-in-PolygonOn
returns-in-PolygonOn g c =
    let here = c.in-PolygonOn in
    as_text g.met.B.TakesBytes.joins _ _ _ _
    c.push_located-in-PolygonOn.ensures
    (located_spaced (here.polygon_on ∷ here.mesh ∷ []) _ ∙ ap (written_numbers c.args.locations.now) (sym here.is))

pub returns-in-SeamPolygons : goal.returns-in-SeamPolygons
returns-in-SeamPolygons g c =
    let here = c.in-SeamPolygons in
    as_text g.met.B.TakesBytes.joins _ _ _ _
    c.push_located-in-SeamPolygons.ensures
    (located_spaced (here.first_polygon_on ∷ here.second_polygon_on ∷ here.mesh ∷ []) _
    ∙ ap (written_numbers c.args.locations.now) (sym here.is))
