use Rattle.std.proofs.Common.{◌∙◌, ◌≤◌, ap, refl, subst, sym}
use Rattle.std.specs.Prelude.{length}
use Rattle.byte_sink.proofs.Joining.{as_text}
use Rattle.tshape_data.specs.Columns.{edge_texts}
use Rattle.tshape_data.specs.Reps.{form_of_edge, texts_of_edge}
use Rattle.tshape_data.specs.declared.reps.EdgeRep.{EdgeRep}
use Rattle.written_heads.specs.Words.{parameters_text}
use Rattle.written_heads.proofs.LineLemmas.{range_alone}
use Rattle.written_heads.proofs.edges.push_parameters.Goals as goal

pub push_range-requires : goal.push_range-requires
push_range-requires g c =
    subst (λ (r : EdgeRep). edge_texts c.args.version (form_of_edge r) ≤ length (texts_of_edge r)) c.in-Curve.is
    c.requires

pub push_p_curve-requires : goal.push_p_curve-requires
push_p_curve-requires g c =
    subst (λ (r : EdgeRep). edge_texts c.args.version (form_of_edge r) ≤ length (texts_of_edge r)) c.in-Curve2.is
    c.requires

pub push_p_curve-requires-in-Seam : goal.push_p_curve-requires-in-Seam
push_p_curve-requires-in-Seam g c =
    subst (λ (r : EdgeRep). edge_texts c.args.version (form_of_edge r) ≤ length (texts_of_edge r)) c.in-Seam.is
    c.requires

pub returns-in-Curve : goal.returns-in-Curve
returns-in-Curve g c =
    as_text g.met.B.TakesBytes.joins _ _ _ _
    c.push_range.ensures
    (range_alone c.in-Curve.texts (subst (λ (r : EdgeRep). edge_texts c.args.version (form_of_edge r)
    ≤ length (texts_of_edge r)) c.in-Curve.is c.requires)
    ∙ ap (parameters_text c.args.version) (sym c.in-Curve.is))

pub returns-in-Curve2 : goal.returns-in-Curve2
returns-in-Curve2 g c =
    as_text g.met.B.TakesBytes.joins _ _ _ _
    c.push_p_curve.ensures
    (ap (parameters_text c.args.version) (sym c.in-Curve2.is))

pub returns-in-Seam : goal.returns-in-Seam
returns-in-Seam g c =
    as_text g.met.B.TakesBytes.joins _ _ _ _
    c.push_p_curve-in-Seam.ensures
    (ap (parameters_text c.args.version) (sym c.in-Seam.is))

pub returns-in-Joint : goal.returns-in-Joint
returns-in-Joint g c =
    as_text g.met.B.TakesBytes.joins _ _ _ _
    c.push_byte.ensures
    (ap (parameters_text c.args.version) (sym c.in-Joint.is))

pub returns-in-Polygon : goal.returns-in-Polygon
returns-in-Polygon g c =
    as_text g.met.B.TakesBytes.joins _ _ _ _
    c.push_byte-in-Polygon.ensures
    (ap (parameters_text c.args.version) (sym c.in-Polygon.is))

pub returns-in-PolygonOn : goal.returns-in-PolygonOn
returns-in-PolygonOn g c =
    as_text g.met.B.TakesBytes.joins _ _ _ _
    c.push_byte-in-PolygonOn.ensures
    (ap (parameters_text c.args.version) (sym c.in-PolygonOn.is))

pub returns-in-SeamPolygons : goal.returns-in-SeamPolygons
returns-in-SeamPolygons g c =
    as_text g.met.B.TakesBytes.joins _ _ _ _
    c.push_byte-in-SeamPolygons.ensures
    (ap (parameters_text c.args.version) (sym c.in-SeamPolygons.is))
