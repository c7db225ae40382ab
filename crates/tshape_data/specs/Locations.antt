-- The locations that the data of a record name, and the data with others in their stead.
use Rattle.std.specs.Prelude.{ℕ, List, [], ◌∷◌, map}
use Rattle.std.specs.List.{flat_map}
use Rattle.tshape_data.specs.Columns.{edge_columns, point_columns}
use Rattle.tshape_data.specs.Parts.{Part, token, entry, located, payload_parts}
use Rattle.tshape_data.specs.Reps.{edge_rep, form_of_edge, form_of_point, numbers_of_edge, numbers_of_point, point_rep}
use Rattle.tshape_data.specs.Reps.{texts_of_edge, texts_of_point}
use Rattle.tshape_data.specs.declared.columns.Column.{Column}
use Rattle.tshape_data.specs.declared.columns.Column.TheVariants.{Entry, Location, Continuity}
use Rattle.tshape_data.specs.declared.reps.PointRep.{PointRep}
use Rattle.tshape_data.specs.declared.reps.EdgeRep.{EdgeRep}
use Rattle.tshape_data.specs.declared.head.Payload.{Payload}
use Rattle.tshape_data.specs.declared.head.Payload.TheVariants.{Vertex, Edge, Face, Nothing}
use Rattle.tshape_data.specs.declared.head.Head.{Head}

abbrev pub location_of_part : Part → List ℕ
location_of_part (token text) = []
location_of_part (entry table n) = []
location_of_part (located n) = n ∷ []

-- the numbers of the locations, in the order in which they stand
abbrev pub data_locations : ℕ → Payload → List ℕ
data_locations version p = flat_map location_of_part (payload_parts version p)

-- ---- with other numbers of locations

module _ (renumber : ℕ → ℕ) where
  abbrev pub renumbered_number : Column → ℕ → ℕ
  renumbered_number (Entry table) n = n
  renumbered_number Location n = renumber n
  renumbered_number Continuity n = n

  abbrev pub renumbered_numbers : List Column → List ℕ → List ℕ
  renumbered_numbers [] ns = []
  renumbered_numbers (c ∷ cs) [] = []
  renumbered_numbers (c ∷ cs) (n ∷ ns) = renumbered_number c n ∷ renumbered_numbers cs ns

  abbrev pub renumbered_point : PointRep → PointRep
  renumbered_point p = point_rep (form_of_point p) (renumbered_numbers (point_columns (form_of_point p))
      (numbers_of_point p)) (texts_of_point p)

  abbrev pub renumbered_edge_rep : EdgeRep → EdgeRep
  renumbered_edge_rep r = edge_rep (form_of_edge r) (renumbered_numbers (edge_columns (form_of_edge r))
      (numbers_of_edge r)) (texts_of_edge r)

  abbrev pub renumbered_payload : Payload → Payload
  renumbered_payload (Vertex d) = Vertex (record d { points = map renumbered_point d.points })
  renumbered_payload (Edge d) = Edge (record d { reps = map renumbered_edge_rep d.reps })
  renumbered_payload (Face d) = Face (record d { location = renumber d.location })
  renumbered_payload Nothing = Nothing

  abbrev pub renumbered_head : Head → Head
  renumbered_head h = record h { payload = renumbered_payload h.payload }

  abbrev pub renumbered_part : Part → Part
  renumbered_part (token text) = token text
  renumbered_part (entry table n) = entry table n
  renumbered_part (located n) = located (renumber n)
