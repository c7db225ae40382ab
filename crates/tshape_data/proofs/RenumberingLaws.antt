-- Data with other locations: they are sound where these are in range, and their parts are the same but for them.
use Rattle.std.proofs.Common.{◌≡◌, ℕ, suc, ◌<◌, ◌≤◌, ◌^◌, List, [], ◌∷◌, ◌++◌, length, map, take, drop, Option, Some}
use Rattle.std.proofs.Common.{None, codes, refl, sym, ap, arith}
use Rattle.std.specs.Fmt.{decimal}
use Rattle.std.specs.List.{AllByRecursion, flat_map}
use Rattle.std.proofs.lemmas.List.{map-append}
use Rattle.orientation.specs.declared.kind.Kind.{Kind}
use Rattle.orientation.specs.declared.kind.Kind.TheVariants.{Ve, Ed, Wi, Fa, Sh, So, CS, Co}
use Rattle.tshape_data.specs.Columns.{edge_columns, point_columns, point_number}
use Rattle.tshape_data.specs.Laws.{with_locations}
use Rattle.tshape_data.specs.Parts.{Part, column_parts, edge_flags, edge_parts, edge_rep_parts, entry, face_parts}
use Rattle.tshape_data.specs.Parts.{mesh_parts, payload_parts, located, point_parts, texts_in, token, tokens}
use Rattle.tshape_data.specs.Parts.{vertex_parts}
use Rattle.tshape_data.specs.Locations.{renumbered_edge_rep, renumbered_numbers, renumbered_part, renumbered_payload}
use Rattle.tshape_data.specs.Locations.{renumbered_point}
use Rattle.tshape_data.specs.RepReading.{size_of}
use Rattle.tshape_data.specs.Reps.{form_of_edge, form_of_point, numbers_of_edge, numbers_of_point, texts_of_edge}
use Rattle.tshape_data.specs.Reps.{texts_of_point}
use Rattle.tshape_data.specs.Sound.{AreInColumns, IsMesh, IsSoundEdge, IsSoundEdgeRep, IsSoundFace, IsSoundPayload}
use Rattle.tshape_data.specs.Sound.{IsSoundPoint, IsSoundVertex, rep_count}
use Rattle.tshape_data.specs.declared.head_bounds.HeadBounds.{HeadBounds}
use Rattle.tshape_data.specs.declared.columns.Table.{Table}
use Rattle.tshape_data.specs.declared.columns.Table.TheVariants.{Curve2s, Curves, Polygons, PolygonsOn, Surfaces}
use Rattle.tshape_data.specs.declared.columns.Table.TheVariants.{Meshes}
use Rattle.tshape_data.specs.declared.columns.Column.{Column}
use Rattle.tshape_data.specs.declared.columns.Column.TheVariants.{Entry, Location, Continuity}
use Rattle.tshape_data.specs.declared.reps.PointRep.{PointRep}
use Rattle.tshape_data.specs.declared.reps.PointRep.TheVariants as point_reps
use Rattle.tshape_data.specs.declared.reps.EdgeRep.{EdgeRep}
use Rattle.tshape_data.specs.declared.reps.EdgeRep.TheVariants as edge_reps
use Rattle.tshape_data.specs.declared.head.VertexData.{VertexData}
use Rattle.tshape_data.specs.declared.head.EdgeData.{EdgeData}
use Rattle.tshape_data.specs.declared.head.FaceData.{FaceData}
use Rattle.tshape_data.specs.declared.head.Payload.{Payload}
use Rattle.tshape_data.specs.declared.head.Payload.TheVariants.{Vertex, Edge, Face, Nothing}
use Rattle.tshape_data.proofs.PartLaws.{edge_rep_sound, point_rep_sound}
use Rattle.tshape_data.proofs.LocationLaws.{AllLocations, each_location, locations_back, locations_front}

-- ---- the parts are the same but for the locations

module _ (renumber : ℕ → ℕ) where
  tokens_stay : (texts : List (List ℕ)) → map (renumbered_part renumber) (tokens texts) ≡ tokens texts
  tokens_stay [] = refl
  tokens_stay (x ∷ texts) = ap (λ z. token x ∷ z) (tokens_stay texts)

  -- the parts of entries with others in their stead
  each_renumbered : {X : Type 0} (parts_of : X → List Part) (f : X → X)
      → ((x : X) → parts_of (f x) ≡ map (renumbered_part renumber) (parts_of x)) → (xs : List X)
      → flat_map parts_of (map f xs) ≡ map (renumbered_part renumber) (flat_map parts_of xs)
  each_renumbered parts_of f same [] = refl
  each_renumbered parts_of f same (x ∷ xs) =
      rw (same x, each_renumbered parts_of f same xs)
      (sym (map-append (renumbered_part renumber) (parts_of x) (flat_map parts_of xs)))

  point_renumbered : (p : PointRep) → point_parts (renumbered_point renumber p) ≡ map (renumbered_part renumber)
      (point_parts p)
  point_renumbered (point_reps.OnCurve texts curve location) = simp (map-append, tokens_stay)
  point_renumbered (point_reps.OnCurve2 texts curve2 surface location) = simp (map-append, tokens_stay)
  point_renumbered (point_reps.OnSurface texts surface location) = simp (map-append, tokens_stay)

  edge_rep_renumbered : (version : ℕ) (r : EdgeRep)
      → edge_rep_parts version (renumbered_edge_rep renumber r) ≡ map (renumbered_part renumber)
      (edge_rep_parts version r)
  edge_rep_renumbered version (edge_reps.Curve curve location texts) = simp tokens_stay
  edge_rep_renumbered version (edge_reps.Curve2 curve2 surface location texts) = simp tokens_stay
  edge_rep_renumbered version (edge_reps.Seam first second continuity surface location texts) = simp tokens_stay
  edge_rep_renumbered version (edge_reps.Joint continuity first first_location second second_location) = refl
  edge_rep_renumbered version (edge_reps.Polygon polygon location) = refl
  edge_rep_renumbered version (edge_reps.PolygonOn polygon_on mesh location) = refl
  edge_rep_renumbered version (edge_reps.SeamPolygons first second mesh location) = refl

  mesh_stays : (mesh : Option ℕ) → map (renumbered_part renumber) (mesh_parts mesh) ≡ mesh_parts mesh
  mesh_stays None = refl
  mesh_stays (Some mesh) = refl

  pub payload_renumbered : (version : ℕ) (p : Payload)
      → payload_parts version (renumbered_payload renumber p) ≡ map (renumbered_part renumber) (payload_parts version p)
  payload_renumbered version (Vertex d) =
      simp (each_renumbered point_parts (renumbered_point renumber) point_renumbered, map-append, tokens_stay)
  payload_renumbered version (Edge d) =
      simp (
        each_renumbered (edge_rep_parts version) (renumbered_edge_rep renumber) (edge_rep_renumbered version),
        map-append,
        tokens_stay,
      )
  payload_renumbered version (Face d) = simp (map-append, tokens_stay, mesh_stays)
  payload_renumbered version Nothing = refl

  length_map : {A B : Type 0} (f : A → B) (xs : List A) → length (map f xs) ≡ length xs
  length_map f [] = refl
  length_map f (x ∷ xs) = ap suc (length_map f xs)

  pub count_renumbered : (p : Payload) → rep_count (renumbered_payload renumber p) ≡ rep_count p
  count_renumbered (Vertex d) = length_map (renumbered_point renumber) d.points
  count_renumbered (Edge d) = length_map (renumbered_edge_rep renumber) d.reps
  count_renumbered (Face d) = refl
  count_renumbered Nothing = refl

-- ---- data are sound with other locations that are in range

same_size : (b : HeadBounds) (n : ℕ) (table : Table) → size_of (with_locations n b) table ≡ size_of b table
same_size b n Curve2s = refl
same_size b n Curves = refl
same_size b n Polygons = refl
same_size b n PolygonsOn = refl
same_size b n Surfaces = refl
same_size b n Meshes = refl

module _ (b : HeadBounds) (renumber : ℕ → ℕ) (n : ℕ) (small : n < 10 ^ 18) where
  abbrev IsInRange : ℕ → Type 0
  IsInRange m = renumber m ≤ n

  columns_renumbered : (cs : List Column) (ns : List ℕ) → AreInColumns b cs ns
      → AllLocations IsInRange (column_parts cs ns)
      → AreInColumns (with_locations n b) cs (renumbered_numbers renumber cs ns)
  columns_renumbered [] [] are all = tt
  columns_renumbered [] (m ∷ ns) are all = absurd are
  columns_renumbered (c ∷ cs) [] are all = absurd are
  columns_renumbered (Entry table ∷ cs) (m ∷ ns) are all =
      (rw (same_size b n table) are.0, columns_renumbered cs ns are.1 all)
  columns_renumbered (Location ∷ cs) (m ∷ ns) are all = (
    record { small = omega (arith, small, all.0); from = omega arith; to = all.0 },
    columns_renumbered cs ns are.1 all.1,
  )
  columns_renumbered (Continuity ∷ cs) (m ∷ ns) are all = (are.0, columns_renumbered cs ns are.1 all)

  point_sound : (p : PointRep) → IsSoundPoint b p → AllLocations IsInRange (point_parts p)
      → IsSoundPoint (with_locations n b) (renumbered_point renumber p)
  point_sound p is all =
      let columns = point_columns (form_of_point p) in
      let ns = numbers_of_point p in
      let texts = texts_of_point p in
      let after = token (decimal (point_number (form_of_point p)))
      ∷ (tokens (drop 1 texts) ++ column_parts columns ns) in
      let locations = locations_back IsInRange (tokens (drop 1 texts)) (column_parts columns ns)
      (locations_back IsInRange (tokens (take 1 texts)) after all) in
      point_rep_sound (with_locations n b) (form_of_point p) (renumbered_numbers renumber columns ns) texts
      (columns_renumbered columns ns is.numbers locations) is.decimals

  edge_rep_stays_sound : (version : ℕ) (r : EdgeRep) → IsSoundEdgeRep b version r
      → AllLocations IsInRange (edge_rep_parts version r)
      → IsSoundEdgeRep (with_locations n b) version (renumbered_edge_rep renumber r)
  edge_rep_stays_sound version r is all =
      let columns = edge_columns (form_of_edge r) in
      let ns = numbers_of_edge r in
      let locations = locations_front IsInRange (column_parts columns ns) (tokens (texts_in version r)) all in
      edge_rep_sound (with_locations n b) version (form_of_edge r) (renumbered_numbers renumber columns ns)
      (texts_of_edge r) (columns_renumbered columns ns is.numbers locations) is.decimals

  each_stays_sound : {X : Type 0} (P Q R : X → Type 0) (f : X → X) → ((x : X) → P x → Q x → R (f x)) → (xs : List X)
      → AllByRecursion P xs → AllByRecursion Q xs → AllByRecursion R (map f xs)
  each_stays_sound P Q R f stays [] a c = tt
  each_stays_sound P Q R f stays (x ∷ xs) a c = (stays x a.0 c.0, each_stays_sound P Q R f stays xs a.1 c.1)

  vertex_stays_sound : (d : VertexData) → IsSoundVertex b d → AllLocations IsInRange (vertex_parts d)
      → IsSoundVertex (with_locations n b) (record d { points = map (renumbered_point renumber) d.points })
  vertex_stays_sound d is all =
      let end = token (codes "0") ∷ token (codes "0") ∷ [] in
      let locations = each_location IsInRange point_parts d.points
      (locations_front IsInRange (flat_map point_parts d.points) end
      (locations_back IsInRange (tokens d.texts) (flat_map point_parts d.points ++ end) all)) in
      record {
        decimals = is.decimals;
        points =
            each_stays_sound (IsSoundPoint b) (λ p. AllLocations IsInRange (point_parts p))
            (IsSoundPoint (with_locations n b)) (renumbered_point renumber) point_sound d.points is.points locations;
      }

  edge_stays_sound : (version : ℕ) (d : EdgeData) → IsSoundEdge b version d
      → AllLocations IsInRange (edge_parts version d)
      → IsSoundEdge (with_locations n b) version (record d { reps = map (renumbered_edge_rep renumber) d.reps })
  edge_stays_sound version d is all =
      let end = token (codes "0") ∷ [] in
      let parts = flat_map (edge_rep_parts version) d.reps in
      let locations = each_location IsInRange (edge_rep_parts version) d.reps
      (locations_front IsInRange parts end (locations_back IsInRange (tokens (d.tolerance ++ edge_flags d))
      (parts ++ end) all)) in
      record {
        decimals = is.decimals;
        reps = each_stays_sound (IsSoundEdgeRep b version) (λ r. AllLocations IsInRange (edge_rep_parts version r))
            (IsSoundEdgeRep (with_locations n b) version) (renumbered_edge_rep renumber) (edge_rep_stays_sound version)
            d.reps is.reps locations;
      }

  mesh_stays_sound : (mesh : Option ℕ) → IsMesh b mesh → IsMesh (with_locations n b) mesh
  mesh_stays_sound None is = is
  mesh_stays_sound (Some mesh) is = is

  face_stays_sound : (d : FaceData) → IsSoundFace b d → AllLocations IsInRange (face_parts d)
      → IsSoundFace (with_locations n b) (record d { location = renumber d.location })
  face_stays_sound d is all =
      let locations = locations_back IsInRange (tokens d.tolerance)
      (entry Surfaces d.surface ∷ located d.location ∷ mesh_parts d.mesh) all in
      let here : renumber d.location ≤ n = locations.0 in
      record {
        decimals = is.decimals;
        surface = is.surface;
        location = record {
          small = omega (arith, small, here);
          from = omega arith;
          to = here;
        };
        mesh = mesh_stays_sound d.mesh is.mesh;
      }

  pub payload_stays_sound : (version : ℕ) (k : Kind) (p : Payload) → IsSoundPayload b version k p
      → AllLocations IsInRange (payload_parts version p)
      → IsSoundPayload (with_locations n b) version k (renumbered_payload renumber p)
  payload_stays_sound version Ve (Vertex d) is all = vertex_stays_sound d is all
  payload_stays_sound version Ed (Edge d) is all = edge_stays_sound version d is all
  payload_stays_sound version Fa (Face d) is all = face_stays_sound d is all
  payload_stays_sound version Wi Nothing is all = tt
  payload_stays_sound version Sh Nothing is all = tt
  payload_stays_sound version So Nothing is all = tt
  payload_stays_sound version CS Nothing is all = tt
  payload_stays_sound version Co Nothing is all = tt
  payload_stays_sound version _ _ is all = absurd is
