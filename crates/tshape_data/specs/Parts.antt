-- What the data of a record are made of: tokens, entries of tables and locations.
use Rattle.std.specs.Prelude.{ℕ, List, [], ◌∷◌, ◌++◌, map, take, drop, slice_index_or, Option, Some, None, codes}
use Rattle.std.specs.List.{flat_map}
use Rattle.std.specs.Fmt.{decimal}
use Rattle.brep_tokens.specs.Forms.{continuity_words, flag_text}
use Rattle.tshape_data.specs.Columns.{edge_columns, edge_number, edge_texts, point_columns, point_number}
use Rattle.tshape_data.specs.Reps.{form_of_edge, form_of_point, numbers_of_edge, numbers_of_point, texts_of_edge}
use Rattle.tshape_data.specs.Reps.{texts_of_point}
use Rattle.tshape_data.specs.declared.columns.Table.{Table}
use Rattle.tshape_data.specs.declared.columns.Table.TheVariants.{Surfaces, Meshes}
use Rattle.tshape_data.specs.declared.columns.Column.{Column}
use Rattle.tshape_data.specs.declared.columns.Column.TheVariants.{Entry, Location, Continuity}
use Rattle.tshape_data.specs.declared.reps.PointRep.{PointRep}
use Rattle.tshape_data.specs.declared.reps.EdgeRep.{EdgeRep}
use Rattle.tshape_data.specs.declared.head.VertexData.{VertexData}
use Rattle.tshape_data.specs.declared.head.EdgeData.{EdgeData}
use Rattle.tshape_data.specs.declared.head.FaceData.{FaceData}
use Rattle.tshape_data.specs.declared.head.Payload.{Payload}
use Rattle.tshape_data.specs.declared.head.Payload.TheVariants.{Vertex, Edge, Face, Nothing}

pub data Part : Type 0 where
  -- a token as it stands
  token : List ℕ → Part
  -- an entry of a table, by its number; 0 is none
  entry : Table → ℕ → Part
  -- a location, by its number
  located : ℕ → Part

abbrev pub tokens : List (List ℕ) → List Part
tokens texts = map token texts

abbrev pub continuity_text : ℕ → List ℕ
continuity_text n = slice_index_or continuity_words n []

abbrev pub column_part : Column → ℕ → Part
column_part (Entry table) n = entry table n
column_part Location n = located n
column_part Continuity n = token (continuity_text n)

-- a part for each number, by its column
abbrev pub column_parts : List Column → List ℕ → List Part
column_parts [] ns = []
column_parts (c ∷ cs) [] = []
column_parts (c ∷ cs) (n ∷ ns) = column_part c n ∷ column_parts cs ns

-- a representation of a vertex: a parameter, the form's number, perhaps a second parameter, and its numbers
abbrev pub point_parts : PointRep → List Part
point_parts p =
    tokens (take 1 (texts_of_point p))
    ++ token (decimal (point_number (form_of_point p)))
    ∷ (tokens (drop 1 (texts_of_point p)) ++ column_parts (point_columns (form_of_point p)) (numbers_of_point p))

-- the decimals that a representation of an edge has in a version
abbrev pub texts_in : ℕ → EdgeRep → List (List ℕ)
texts_in version r = take (edge_texts version (form_of_edge r)) (texts_of_edge r)

-- a representation of an edge: the form's number, its numbers, and its decimals
abbrev pub edge_rep_parts : ℕ → EdgeRep → List Part
edge_rep_parts version r =
    token (decimal (edge_number (form_of_edge r)))
    ∷ (column_parts (edge_columns (form_of_edge r)) (numbers_of_edge r) ++ tokens (texts_in version r))

abbrev pub vertex_parts : VertexData → List Part
vertex_parts d = tokens d.texts ++ (flat_map point_parts d.points ++ token (codes "0") ∷ token (codes "0") ∷ [])

abbrev pub edge_flags : EdgeData → List (List ℕ)
edge_flags d = flag_text d.same_parameter ∷ flag_text d.same_range ∷ flag_text d.degenerated ∷ []

abbrev pub edge_parts : ℕ → EdgeData → List Part
edge_parts version d = tokens (d.tolerance ++ edge_flags d)
    ++ (flat_map (edge_rep_parts version) d.reps ++ token (codes "0") ∷ [])

-- `2` and the number of a triangulation
abbrev pub mesh_parts : Option ℕ → List Part
mesh_parts None = []
mesh_parts (Some mesh) = token (codes "2") ∷ entry Meshes mesh ∷ []

abbrev pub face_parts : FaceData → List Part
face_parts d = token (flag_text d.natural)
    ∷ (tokens d.tolerance ++ (entry Surfaces d.surface ∷ located d.location ∷ mesh_parts d.mesh))

-- The data of a record in a file of a version.
abbrev pub payload_parts : ℕ → Payload → List Part
payload_parts version (Vertex d) = vertex_parts d
payload_parts version (Edge d) = edge_parts version d
payload_parts version (Face d) = face_parts d
payload_parts version Nothing = []
