-- A representation by its form, its numbers in the order of its columns, and its decimals.
use Rattle.std.specs.Prelude.{ℕ, List, [], ◌∷◌, slice_index}
use Rattle.tshape_data.specs.declared.forms.PointForm.{PointForm}
use Rattle.tshape_data.specs.declared.forms.PointForm.TheVariants as points
use Rattle.tshape_data.specs.declared.forms.EdgeForm.{EdgeForm}
use Rattle.tshape_data.specs.declared.forms.EdgeForm.TheVariants as edges
use Rattle.tshape_data.specs.declared.reps.PointRep.{PointRep}
use Rattle.tshape_data.specs.declared.reps.PointRep.TheVariants as point_reps
use Rattle.tshape_data.specs.declared.reps.EdgeRep.{EdgeRep}
use Rattle.tshape_data.specs.declared.reps.EdgeRep.TheVariants as edge_reps

-- ---- of vertices

abbrev pub form_of_point : PointRep → PointForm
form_of_point (point_reps.OnCurve texts curve location) = points.OnCurve
form_of_point (point_reps.OnCurve2 texts curve2 surface location) = points.OnCurve2
form_of_point (point_reps.OnSurface texts surface location) = points.OnSurface

abbrev pub numbers_of_point : PointRep → List ℕ
numbers_of_point (point_reps.OnCurve texts curve location) = curve ∷ location ∷ []
numbers_of_point (point_reps.OnCurve2 texts curve2 surface location) = curve2 ∷ surface ∷ location ∷ []
numbers_of_point (point_reps.OnSurface texts surface location) = surface ∷ location ∷ []

abbrev pub texts_of_point : PointRep → List (List ℕ)
texts_of_point (point_reps.OnCurve texts curve location) = texts
texts_of_point (point_reps.OnCurve2 texts curve2 surface location) = texts
texts_of_point (point_reps.OnSurface texts surface location) = texts

abbrev pub point_rep : PointForm → List ℕ → List (List ℕ) → PointRep
point_rep points.OnCurve ns texts = point_reps.OnCurve texts (slice_index ns 0) (slice_index ns 1)
point_rep points.OnCurve2 ns texts = point_reps.OnCurve2 texts (slice_index ns 0) (slice_index ns 1) (slice_index ns 2)
point_rep points.OnSurface ns texts = point_reps.OnSurface texts (slice_index ns 0) (slice_index ns 1)

-- ---- of edges

abbrev pub form_of_edge : EdgeRep → EdgeForm
form_of_edge (edge_reps.Curve curve location texts) = edges.Curve
form_of_edge (edge_reps.Curve2 curve2 surface location texts) = edges.Curve2
form_of_edge (edge_reps.Seam first second continuity surface location texts) = edges.Seam
form_of_edge (edge_reps.Joint continuity first first_location second second_location) = edges.Joint
form_of_edge (edge_reps.Polygon polygon location) = edges.Polygon
form_of_edge (edge_reps.PolygonOn polygon_on mesh location) = edges.PolygonOn
form_of_edge (edge_reps.SeamPolygons first second mesh location) = edges.SeamPolygons

abbrev pub numbers_of_edge : EdgeRep → List ℕ
numbers_of_edge (edge_reps.Curve curve location texts) = curve ∷ location ∷ []
numbers_of_edge (edge_reps.Curve2 curve2 surface location texts) = curve2 ∷ surface ∷ location ∷ []
numbers_of_edge (edge_reps.Seam first second continuity surface location texts) =
    first ∷ second ∷ continuity ∷ surface ∷ location ∷ []
numbers_of_edge (edge_reps.Joint continuity first first_location second second_location) =
    continuity ∷ first ∷ first_location ∷ second ∷ second_location ∷ []
numbers_of_edge (edge_reps.Polygon polygon location) = polygon ∷ location ∷ []
numbers_of_edge (edge_reps.PolygonOn polygon_on mesh location) = polygon_on ∷ mesh ∷ location ∷ []
numbers_of_edge (edge_reps.SeamPolygons first second mesh location) = first ∷ second ∷ mesh ∷ location ∷ []

abbrev pub texts_of_edge : EdgeRep → List (List ℕ)
texts_of_edge (edge_reps.Curve curve location texts) = texts
texts_of_edge (edge_reps.Curve2 curve2 surface location texts) = texts
texts_of_edge (edge_reps.Seam first second continuity surface location texts) = texts
texts_of_edge (edge_reps.Joint continuity first first_location second second_location) = []
texts_of_edge (edge_reps.Polygon polygon location) = []
texts_of_edge (edge_reps.PolygonOn polygon_on mesh location) = []
texts_of_edge (edge_reps.SeamPolygons first second mesh location) = []

abbrev pub edge_rep : EdgeForm → List ℕ → List (List ℕ) → EdgeRep
edge_rep edges.Curve ns texts = edge_reps.Curve (slice_index ns 0) (slice_index ns 1) texts
edge_rep edges.Curve2 ns texts = edge_reps.Curve2 (slice_index ns 0) (slice_index ns 1) (slice_index ns 2) texts
edge_rep edges.Seam ns texts = edge_reps.Seam (slice_index ns 0) (slice_index ns 1) (slice_index ns 2)
    (slice_index ns 3) (slice_index ns 4) texts
edge_rep edges.Joint ns texts = edge_reps.Joint (slice_index ns 0) (slice_index ns 1) (slice_index ns 2)
    (slice_index ns 3) (slice_index ns 4)
edge_rep edges.Polygon ns texts = edge_reps.Polygon (slice_index ns 0) (slice_index ns 1)
edge_rep edges.PolygonOn ns texts = edge_reps.PolygonOn (slice_index ns 0) (slice_index ns 1) (slice_index ns 2)
edge_rep edges.SeamPolygons ns texts = edge_reps.SeamPolygons (slice_index ns 0) (slice_index ns 1) (slice_index ns 2)
    (slice_index ns 3)
