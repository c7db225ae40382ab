-- Of which numbers the representations of each form consist, and how many decimals they have.
use Rattle.std.specs.Prelude.{ℕ, ◌==◌, if◌then◌else◌, List, [], ◌∷◌, Option, Some, None}
use Rattle.tshape_data.specs.declared.columns.Table.TheVariants.{Curve2s, Curves, Polygons, PolygonsOn, Surfaces}
use Rattle.tshape_data.specs.declared.columns.Table.TheVariants.{Meshes}
use Rattle.tshape_data.specs.declared.columns.Column.{Column}
use Rattle.tshape_data.specs.declared.columns.Column.TheVariants.{Entry, Location, Continuity}
use Rattle.tshape_data.specs.declared.forms.PointForm.{PointForm}
use Rattle.tshape_data.specs.declared.forms.PointForm.TheVariants as points
use Rattle.tshape_data.specs.declared.forms.EdgeForm.{EdgeForm}
use Rattle.tshape_data.specs.declared.forms.EdgeForm.TheVariants as edges

-- ---- representations of vertices: a parameter, the number of the form, perhaps a second parameter, and these numbers

abbrev pub point_number : PointForm → ℕ
point_number points.OnCurve = 1
point_number points.OnCurve2 = 2
point_number points.OnSurface = 3

abbrev pub point_form : ℕ → Option PointForm
point_form n = if n == 1 then Some points.OnCurve
    else (if n == 2 then Some points.OnCurve2 else (if n == 3 then Some points.OnSurface else None))

abbrev pub point_columns : PointForm → List Column
point_columns points.OnCurve = Entry Curves ∷ Location ∷ []
point_columns points.OnCurve2 = Entry Curve2s ∷ Entry Surfaces ∷ Location ∷ []
point_columns points.OnSurface = Entry Surfaces ∷ Location ∷ []

-- how many parameters stand after the form's number
abbrev pub second_texts : PointForm → ℕ
second_texts points.OnCurve = 0
second_texts points.OnCurve2 = 0
second_texts points.OnSurface = 1

-- ---- representations of edges: the number of the form, these numbers, and so many decimals

abbrev pub edge_number : EdgeForm → ℕ
edge_number edges.Curve = 1
edge_number edges.Curve2 = 2
edge_number edges.Seam = 3
edge_number edges.Joint = 4
edge_number edges.Polygon = 5
edge_number edges.PolygonOn = 6
edge_number edges.SeamPolygons = 7

abbrev pub edge_form : ℕ → Option EdgeForm
edge_form n =
    if n == 1 then Some edges.Curve
    else (if n == 2 then Some edges.Curve2
    else (if n == 3 then Some edges.Seam
    else (if n == 4 then Some edges.Joint
    else (if n == 5 then Some edges.Polygon
    else (if n == 6 then Some edges.PolygonOn
    else (if n == 7 then Some edges.SeamPolygons
    else None))))))

abbrev pub edge_columns : EdgeForm → List Column
edge_columns edges.Curve = Entry Curves ∷ Location ∷ []
edge_columns edges.Curve2 = Entry Curve2s ∷ Entry Surfaces ∷ Location ∷ []
edge_columns edges.Seam = Entry Curve2s ∷ Entry Curve2s ∷ Continuity ∷ Entry Surfaces ∷ Location ∷ []
edge_columns edges.Joint = Continuity ∷ Entry Surfaces ∷ Location ∷ Entry Surfaces ∷ Location ∷ []
edge_columns edges.Polygon = Entry Polygons ∷ Location ∷ []
edge_columns edges.PolygonOn = Entry PolygonsOn ∷ Entry Meshes ∷ Location ∷ []
edge_columns edges.SeamPolygons = Entry PolygonsOn ∷ Entry PolygonsOn ∷ Entry Meshes ∷ Location ∷ []

-- a continuity stands among the numbers: of two p-curves on a closed surface, or of two surfaces
abbrev pub HasContinuity : EdgeForm → Type 0
HasContinuity edges.Seam = Unit {0}
HasContinuity edges.Joint = Unit {0}
HasContinuity _ = ⊥

-- a polygon, or polygons on a triangulation
abbrev pub IsPolygonal : EdgeForm → Type 0
IsPolygonal edges.Polygon = Unit {0}
IsPolygonal edges.PolygonOn = Unit {0}
IsPolygonal edges.SeamPolygons = Unit {0}
IsPolygonal _ = ⊥

-- the first and the last parameter of a p-curve, and in version 2 its first and its last UV point
abbrev pub p_curve_texts : ℕ → ℕ
p_curve_texts version = if version == 2 then 6 else 2

abbrev pub edge_texts : ℕ → EdgeForm → ℕ
edge_texts version edges.Curve = 2
edge_texts version edges.Curve2 = p_curve_texts version
edge_texts version edges.Seam = p_curve_texts version
edge_texts version edges.Joint = 0
edge_texts version edges.Polygon = 0
edge_texts version edges.PolygonOn = 0
edge_texts version edges.SeamPolygons = 0
