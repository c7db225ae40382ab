-- The locations in parts: which those of sound data are.
use Rattle.std.proofs.Common.{ℕ, ◌≤◌, List, [], ◌∷◌, ◌++◌, take, drop, Option, Some, None, codes}
use Rattle.std.specs.Fmt.{decimal}
use Rattle.std.specs.List.{AllByRecursion, flat_map}
use Rattle.orientation.specs.declared.kind.Kind.{Kind}
use Rattle.orientation.specs.declared.kind.Kind.TheVariants.{Ve, Ed, Wi, Fa, Sh, So, CS, Co}
use Rattle.tshape_data.specs.Columns.{edge_columns, point_columns, point_number}
use Rattle.tshape_data.specs.Parts.{Part, column_parts, edge_flags, edge_parts, edge_rep_parts, entry, face_parts}
use Rattle.tshape_data.specs.Parts.{mesh_parts, payload_parts, located, point_parts, texts_in, token, tokens}
use Rattle.tshape_data.specs.Parts.{vertex_parts}
use Rattle.tshape_data.specs.Locations.{location_of_part}
use Rattle.tshape_data.specs.Reps.{form_of_edge, form_of_point, numbers_of_edge, numbers_of_point, texts_of_point}
use Rattle.tshape_data.specs.Sound.{AreInColumns, IsSoundEdge, IsSoundEdgeRep, IsSoundFace, IsSoundPayload}
use Rattle.tshape_data.specs.Sound.{IsSoundPoint, IsSoundVertex}
use Rattle.tshape_data.specs.declared.head_bounds.HeadBounds.{HeadBounds}
use Rattle.tshape_data.specs.declared.columns.Table.TheVariants.{Surfaces}
use Rattle.tshape_data.specs.declared.columns.Column.{Column}
use Rattle.tshape_data.specs.declared.columns.Column.TheVariants.{Entry, Location, Continuity}
use Rattle.tshape_data.specs.declared.reps.PointRep.{PointRep}
use Rattle.tshape_data.specs.declared.reps.EdgeRep.{EdgeRep}
use Rattle.tshape_data.specs.declared.head.VertexData.{VertexData}
use Rattle.tshape_data.specs.declared.head.EdgeData.{EdgeData}
use Rattle.tshape_data.specs.declared.head.FaceData.{FaceData}
use Rattle.tshape_data.specs.declared.head.Payload.{Payload}
use Rattle.tshape_data.specs.declared.head.Payload.TheVariants.{Vertex, Edge, Face, Nothing}

module _ (P : ℕ → Type 0) where
  -- each location among the parts is such
  abbrev pub AllLocations : List Part → Type 0
  AllLocations parts = AllByRecursion P (flat_map location_of_part parts)

  pub locations_join : (ps qs : List Part) → AllLocations ps → AllLocations qs → AllLocations (ps ++ qs)
  locations_join [] qs a b = b
  locations_join (token t ∷ ps) qs a b = locations_join ps qs a b
  locations_join (entry table n ∷ ps) qs a b = locations_join ps qs a b
  locations_join (located n ∷ ps) qs a b = (a.0, locations_join ps qs a.1 b)

  pub locations_front : (ps qs : List Part) → AllLocations (ps ++ qs) → AllLocations ps
  locations_front [] qs a = tt
  locations_front (token t ∷ ps) qs a = locations_front ps qs a
  locations_front (entry table n ∷ ps) qs a = locations_front ps qs a
  locations_front (located n ∷ ps) qs a = (a.0, locations_front ps qs a.1)

  pub locations_back : (ps qs : List Part) → AllLocations (ps ++ qs) → AllLocations qs
  locations_back [] qs a = a
  locations_back (token t ∷ ps) qs a = locations_back ps qs a
  locations_back (entry table n ∷ ps) qs a = locations_back ps qs a
  locations_back (located n ∷ ps) qs a = locations_back ps qs a.1

  pub locations_of_tokens : (texts : List (List ℕ)) → AllLocations (tokens texts)
  locations_of_tokens [] = tt
  locations_of_tokens (x ∷ texts) = locations_of_tokens texts

  pub locations_each : {X : Type 0} (parts_of : X → List Part) (xs : List X)
      → AllByRecursion (λ x. AllLocations (parts_of x)) xs → AllLocations (flat_map parts_of xs)
  locations_each parts_of [] all = tt
  locations_each parts_of (x ∷ xs) all = locations_join (parts_of x) (flat_map parts_of xs) all.0
      (locations_each parts_of xs all.1)

  pub each_location : {X : Type 0} (parts_of : X → List Part) (xs : List X) → AllLocations (flat_map parts_of xs)
      → AllByRecursion (λ x. AllLocations (parts_of x)) xs
  each_location parts_of [] all = tt
  each_location parts_of (x ∷ xs) all = (
    locations_front (parts_of x) (flat_map parts_of xs) all,
    each_location parts_of xs (locations_back (parts_of x) (flat_map parts_of xs) all),
  )

pub all_map : {X : Type 0} (P Q : X → Type 0) → ((x : X) → P x → Q x) → (xs : List X) → AllByRecursion P xs
    → AllByRecursion Q xs
all_map P Q f [] all = tt
all_map P Q f (x ∷ xs) all = (f x all.0, all_map P Q f xs all.1)

-- ---- the locations of sound data are those of the file

module _ (b : HeadBounds) where
  abbrev IsHere : ℕ → Type 0
  IsHere n = n ≤ b.locations

  columns_within : (cs : List Column) (ns : List ℕ) → AreInColumns b cs ns → AllLocations IsHere (column_parts cs ns)
  columns_within [] ns are = tt
  columns_within (c ∷ cs) [] are = tt
  columns_within (Entry table ∷ cs) (n ∷ ns) are = columns_within cs ns are.1
  columns_within (Location ∷ cs) (n ∷ ns) are = (are.0.to, columns_within cs ns are.1)
  columns_within (Continuity ∷ cs) (n ∷ ns) are = columns_within cs ns are.1

  point_within : (p : PointRep) → IsSoundPoint b p → AllLocations IsHere (point_parts p)
  point_within p is =
      let texts = texts_of_point p in
      let columns = column_parts (point_columns (form_of_point p)) (numbers_of_point p) in
      let after = locations_join IsHere (tokens (drop 1 texts)) columns (locations_of_tokens IsHere (drop 1 texts))
      (columns_within (point_columns (form_of_point p)) (numbers_of_point p) is.numbers) in
      locations_join IsHere (tokens (take 1 texts))
      (token (decimal (point_number (form_of_point p))) ∷ (tokens (drop 1 texts) ++ columns))
      (locations_of_tokens IsHere (take 1 texts)) after

  edge_rep_within : (version : ℕ) (r : EdgeRep) → IsSoundEdgeRep b version r
      → AllLocations IsHere (edge_rep_parts version r)
  edge_rep_within version r is =
      locations_join IsHere (column_parts (edge_columns (form_of_edge r)) (numbers_of_edge r))
      (tokens (texts_in version r))
      (columns_within (edge_columns (form_of_edge r)) (numbers_of_edge r) is.numbers)
      (locations_of_tokens IsHere (texts_in version r))

  vertex_within : (d : VertexData) → IsSoundVertex b d → AllLocations IsHere (vertex_parts d)
  vertex_within d is =
      let points = locations_each IsHere point_parts d.points
      (all_map (IsSoundPoint b) (λ p. AllLocations IsHere (point_parts p)) point_within d.points is.points) in
      let end = token (codes "0") ∷ token (codes "0") ∷ [] in
      locations_join IsHere (tokens d.texts) (flat_map point_parts d.points ++ end) (locations_of_tokens IsHere d.texts)
      (locations_join IsHere (flat_map point_parts d.points) end points tt)

  edge_within : (version : ℕ) (d : EdgeData) → IsSoundEdge b version d → AllLocations IsHere (edge_parts version d)
  edge_within version d is =
      let reps = locations_each IsHere (edge_rep_parts version) d.reps
      (all_map (IsSoundEdgeRep b version) (λ r. AllLocations IsHere (edge_rep_parts version r))
      (edge_rep_within version) d.reps is.reps) in
      let end = token (codes "0") ∷ [] in
      let texts = d.tolerance ++ edge_flags d in
      locations_join IsHere (tokens texts) (flat_map (edge_rep_parts version) d.reps ++ end)
      (locations_of_tokens IsHere texts)
      (locations_join IsHere (flat_map (edge_rep_parts version) d.reps) end reps tt)

  mesh_within : (mesh : Option ℕ) → AllLocations IsHere (mesh_parts mesh)
  mesh_within None = tt
  mesh_within (Some mesh) = tt

  face_within : (d : FaceData) → IsSoundFace b d → AllLocations IsHere (face_parts d)
  face_within d is =
      locations_join IsHere (tokens d.tolerance) (entry Surfaces d.surface ∷ located d.location ∷ mesh_parts d.mesh)
      (locations_of_tokens IsHere d.tolerance) (is.location.to, mesh_within d.mesh)

  -- what holds of sound data of each form holds of all sound data
  pub by_payload : (version : ℕ) (Q : Payload → Type 0) → ((d : VertexData) → IsSoundVertex b d → Q (Vertex d))
      → ((d : EdgeData) → IsSoundEdge b version d → Q (Edge d))
      → ((d : FaceData) → IsSoundFace b d → Q (Face d)) → Q Nothing
      → (k : Kind) (p : Payload) → IsSoundPayload b version k p → Q p
  by_payload version Q vertex edge face nothing Ve (Vertex d) is = vertex d is
  by_payload version Q vertex edge face nothing Ed (Edge d) is = edge d is
  by_payload version Q vertex edge face nothing Fa (Face d) is = face d is
  by_payload version Q vertex edge face nothing Wi Nothing is = nothing
  by_payload version Q vertex edge face nothing Sh Nothing is = nothing
  by_payload version Q vertex edge face nothing So Nothing is = nothing
  by_payload version Q vertex edge face nothing CS Nothing is = nothing
  by_payload version Q vertex edge face nothing Co Nothing is = nothing
  by_payload version Q vertex edge face nothing _ _ is = absurd is

  pub payload_within : (version : ℕ) (k : Kind) (p : Payload) → IsSoundPayload b version k p
      → AllLocations IsHere (payload_parts version p)
  payload_within version k p is = by_payload version (λ q. AllLocations IsHere (payload_parts version q)) vertex_within
      (edge_within version) face_within tt k p is
