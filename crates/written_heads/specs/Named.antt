-- The locations that data name, in the order in which they stand.
use Rattle.std.specs.Prelude.{◌≡◌, ◌≤◌, ℕ, List, All, length}
use Rattle.std.specs.List.{flat_map}
use Rattle.tshape_data.specs.Columns.{edge_columns, point_columns}
use Rattle.tshape_data.specs.Parts.{column_parts}
use Rattle.tshape_data.specs.Locations.{data_locations, location_of_part}
use Rattle.tshape_data.specs.Reps.{form_of_edge, form_of_point, numbers_of_edge, numbers_of_point}
use Rattle.tshape_data.specs.declared.head.Payload.{Payload}
use Rattle.tshape_data.specs.declared.reps.EdgeRep.{EdgeRep}
use Rattle.tshape_data.specs.declared.reps.PointRep.{PointRep}
use Rattle.written_locations.specs.declared.written.WrittenLocations.{WrittenLocations}
use Rattle.written_locations.specs.Added.{Adds}

-- of an edge's representation
abbrev pub edge_locations : EdgeRep → List ℕ
edge_locations r = flat_map location_of_part (column_parts (edge_columns (form_of_edge r)) (numbers_of_edge r))

-- of a vertex's representation
abbrev pub point_locations : PointRep → List ℕ
point_locations p = flat_map location_of_part (column_parts (point_columns (form_of_point p)) (numbers_of_point p))

-- each is a place of the section; 0 is none
abbrev pub AreInSection : WrittenLocations → List ℕ → Type 0
AreInSection s places = All (λ place. place ≤ length s.section.now) places

-- The locations of the data are added, in the order of each version.
abbrev pub AddsLocationsOf : Payload → WrittenLocations → WrittenLocations → Type 0
AddsLocationsOf p old new = (version : ℕ) → Adds (data_locations version p) old new

-- The data name the same locations in each version.
abbrev pub LocationsStay : Type 0
LocationsStay = (version other : ℕ) (p : Payload) → data_locations version p ≡ data_locations other p
