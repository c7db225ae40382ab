use Rattle.std.proofs.Common.{◌∙◌, ap, sym}
use Rattle.std.specs.Fmt.{decimal}
use Rattle.tshape_data.specs.Columns.{edge_number}
use Rattle.tshape_data.specs.Reps.{form_of_edge}
use Rattle.tshape_data.specs.declared.reps.EdgeRep.{EdgeRep}
use Rattle.written_heads.proofs.Digits.{digit_1, digit_2, digit_3, digit_4, digit_5, digit_6, digit_7}
use Rattle.written_heads.proofs.edges.form_digit.Goals as goal

pub returns-in-Curve : goal.returns-in-Curve
returns-in-Curve c = sym (ap (λ (r : EdgeRep). decimal (edge_number (form_of_edge r))) c.in-Curve.is ∙ digit_1)

pub returns-in-Curve2 : goal.returns-in-Curve2
returns-in-Curve2 c = sym (ap (λ (r : EdgeRep). decimal (edge_number (form_of_edge r))) c.in-Curve2.is ∙ digit_2)

pub returns-in-Seam : goal.returns-in-Seam
returns-in-Seam c = sym (ap (λ (r : EdgeRep). decimal (edge_number (form_of_edge r))) c.in-Seam.is ∙ digit_3)

pub returns-in-Joint : goal.returns-in-Joint
returns-in-Joint c = sym (ap (λ (r : EdgeRep). decimal (edge_number (form_of_edge r))) c.in-Joint.is ∙ digit_4)

pub returns-in-Polygon : goal.returns-in-Polygon
returns-in-Polygon c = sym (ap (λ (r : EdgeRep). decimal (edge_number (form_of_edge r))) c.in-Polygon.is ∙ digit_5)

pub returns-in-PolygonOn : goal.returns-in-PolygonOn
returns-in-PolygonOn c = sym (ap (λ (r : EdgeRep). decimal (edge_number (form_of_edge r))) c.in-PolygonOn.is ∙ digit_6)

pub returns-in-SeamPolygons : goal.returns-in-SeamPolygons
returns-in-SeamPolygons c =
    sym (ap (λ (r : EdgeRep). decimal (edge_number (form_of_edge r))) c.in-SeamPolygons.is ∙ digit_7)
