-- A sound head whose tokens have at most 128 bytes can be spelled, and so can it with other locations.
use Rattle.std.proofs.Common.{ℕ, List, [], ◌∷◌, ◌++◌, map, take, drop, subst, arith}
use Rattle.std.specs.Fmt.{decimal}
use Rattle.std.specs.List.{AllByRecursion, flat_map}
use Rattle.std.proofs.lemmas.List.{take-append-drop, take_all}
use Rattle.entry_readers.specs.Spelled.{AreShort}
use Rattle.tshape_data.specs.Columns.{edge_columns, edge_texts, point_columns, point_number}
use Rattle.tshape_data.specs.Flags.{spell_flags}
use Rattle.tshape_data.specs.Laws.{HeadsCanBeSpelled}
use Rattle.tshape_data.specs.Parts.{edge_flags, texts_in}
use Rattle.tshape_data.specs.Locations.{renumbered_edge_rep, renumbered_payload, renumbered_point}
use Rattle.tshape_data.specs.Reps.{form_of_edge, form_of_point, numbers_of_edge, numbers_of_point, texts_of_edge}
use Rattle.tshape_data.specs.Reps.{texts_of_point}
use Rattle.tshape_data.specs.Short.{IsShortEdgeRep, IsShortPayload, IsShortPoint}
use Rattle.tshape_data.specs.Sound.{IsSoundEdge, IsSoundEdgeRep, IsSoundFace, IsSoundVertex}
use Rattle.tshape_data.specs.Spelling.{spell_payload}
use Rattle.tshape_data.specs.declared.head_bounds.HeadBounds.{HeadBounds}
use Rattle.tshape_data.specs.declared.reps.PointRep.{PointRep}
use Rattle.tshape_data.specs.declared.reps.PointRep.TheVariants as point_reps
use Rattle.tshape_data.specs.declared.reps.EdgeRep.{EdgeRep}
use Rattle.tshape_data.specs.declared.reps.EdgeRep.TheVariants as edge_reps
use Rattle.tshape_data.specs.declared.head.VertexData.{VertexData}
use Rattle.tshape_data.specs.declared.head.EdgeData.{EdgeData}
use Rattle.tshape_data.specs.declared.head.FaceData.{FaceData}
use Rattle.tshape_data.specs.declared.head.Payload.{Payload}
use Rattle.tshape_data.specs.declared.head.Payload.TheVariants.{Vertex, Edge, Face, Nothing}
use Rattle.tshape_data.proofs.ColumnLaws.{number_texts}
use Rattle.tshape_data.proofs.PayloadTexts.{edge_end, edge_rep_spelled, edge_rep_texts, edge_reps_texts, edge_spelled}
use Rattle.tshape_data.proofs.PayloadTexts.{face_spelled, mesh_texts, point_rep_spelled, point_rep_texts, vertex_end}
use Rattle.tshape_data.proofs.PayloadTexts.{vertex_spelled}
use Rattle.tshape_data.proofs.LocationLaws.{by_payload}

short_join : (xs ys : List (List ℕ)) → AreShort xs → AreShort ys → AreShort (xs ++ ys)
short_join [] ys a b = b
short_join (x ∷ xs) ys a b = (a.0, short_join xs ys a.1 b)

short_left : (xs ys : List (List ℕ)) → AreShort (xs ++ ys) → AreShort xs
short_left [] ys all = tt
short_left (x ∷ xs) ys all = (all.0, short_left xs ys all.1)

short_right : (xs ys : List (List ℕ)) → AreShort (xs ++ ys) → AreShort ys
short_right [] ys all = all
short_right (x ∷ xs) ys all = short_right xs ys all.1

-- ---- representations

point_short : (p : PointRep) → AreShort (point_rep_texts p) → IsShortPoint p
point_short p short =
    let texts = texts_of_point p in
    let after = drop 1 texts ++ number_texts (point_columns (form_of_point p)) (numbers_of_point p) in
    let all = subst AreShort (point_rep_spelled p) short in
    let first = short_left (take 1 texts) (decimal (point_number (form_of_point p)) ∷ after) all in
    let others = short_right (take 1 texts) (decimal (point_number (form_of_point p)) ∷ after) all in
    let second = short_left (drop 1 texts)
    (number_texts (point_columns (form_of_point p)) (numbers_of_point p)) others.1 in
    subst AreShort (take-append-drop 1 texts) (short_join (take 1 texts) (drop 1 texts) first second)

edge_rep_short : (b : HeadBounds) (version : ℕ) (r : EdgeRep) → IsSoundEdgeRep b version r
    → AreShort (edge_rep_texts version r) → IsShortEdgeRep r
edge_rep_short b version r is short =
    let all = subst AreShort (edge_rep_spelled version r) short in
    let texts = short_right (number_texts (edge_columns (form_of_edge r)) (numbers_of_edge r))
    (texts_in version r) all.1 in
    subst AreShort (take_all (edge_texts version (form_of_edge r)) (texts_of_edge r) (omega (arith, is.decimals.0)))
    texts

each_short : {X : Type 0} (texts_of : X → List (List ℕ)) (Sound Short : X → Type 0)
    → ((x : X) → Sound x → AreShort (texts_of x) → Short x) → (xs : List X) → AllByRecursion Sound xs
    → AreShort (flat_map texts_of xs) → AllByRecursion Short xs
each_short texts_of Sound Short one [] all short = tt
each_short texts_of Sound Short one (x ∷ xs) all short = (
  one x all.0 (short_left (texts_of x) (flat_map texts_of xs) short),
  each_short texts_of Sound Short one xs all.1
      (short_right (texts_of x) (flat_map texts_of xs) short),
)

-- ---- data

module _ (b : HeadBounds) (version : ℕ) where
  abbrev Can : Payload → Type 0
  Can p = AreShort (spell_payload version p) → IsShortPayload p

  vertex_can : (d : VertexData) → IsSoundVertex b d → Can (Vertex d)
  vertex_can d is short =
      let points = flat_map point_rep_texts d.points in
      let all = subst AreShort (vertex_spelled version d) short in
      let reps = short_left points vertex_end (short_right d.texts (points ++ vertex_end) all) in (
        short_left d.texts (points ++ vertex_end) all,
        each_short point_rep_texts _ IsShortPoint (λ p _. point_short p)
            d.points is.points reps,
      )

  edge_can : (d : EdgeData) → IsSoundEdge b version d → Can (Edge d)
  edge_can d is short =
      let reps = flat_map (edge_rep_texts version) d.reps in
      let all = subst AreShort (edge_spelled version d) short in
      let after = short_right (edge_flags d) (edge_reps_texts version d.reps)
      (short_right d.tolerance (edge_flags d ++ edge_reps_texts version d.reps) all) in (
        short_left d.tolerance (edge_flags d ++ edge_reps_texts version d.reps) all,
        each_short (edge_rep_texts version) (IsSoundEdgeRep b version) IsShortEdgeRep (edge_rep_short b version) d.reps
            is.reps (short_left reps edge_end after),
      )

  face_can : (d : FaceData) → IsSoundFace b d → Can (Face d)
  face_can d is short =
      let all = subst AreShort (face_spelled version d) short in
      short_left d.tolerance (decimal d.surface ∷ decimal d.location ∷ mesh_texts d.mesh) all.1

-- ---- with other locations

module _ (renumber : ℕ → ℕ) where
  point_stays : (p : PointRep) → IsShortPoint p → IsShortPoint (renumbered_point renumber p)
  point_stays (point_reps.OnCurve texts curve location) is = is
  point_stays (point_reps.OnCurve2 texts curve2 surface location) is = is
  point_stays (point_reps.OnSurface texts surface location) is = is

  edge_rep_stays : (r : EdgeRep) → IsShortEdgeRep r → IsShortEdgeRep (renumbered_edge_rep renumber r)
  edge_rep_stays (edge_reps.Curve curve location texts) is = is
  edge_rep_stays (edge_reps.Curve2 curve2 surface location texts) is = is
  edge_rep_stays (edge_reps.Seam first second continuity surface location texts) is = is
  edge_rep_stays (edge_reps.Joint continuity first first_location second second_location) is = is
  edge_rep_stays (edge_reps.Polygon polygon location) is = is
  edge_rep_stays (edge_reps.PolygonOn polygon_on mesh location) is = is
  edge_rep_stays (edge_reps.SeamPolygons first second mesh location) is = is

  each_stays : {X : Type 0} (P : X → Type 0) (f : X → X) → ((x : X) → P x → P (f x)) → (xs : List X)
      → AllByRecursion P xs → AllByRecursion P (map f xs)
  each_stays P f one [] all = tt
  each_stays P f one (x ∷ xs) all = (one x all.0, each_stays P f one xs all.1)

  payload_stays : (p : Payload) → IsShortPayload p → IsShortPayload (renumbered_payload renumber p)
  payload_stays (Vertex d) is = (is.0, each_stays IsShortPoint (renumbered_point renumber) point_stays d.points is.1)
  payload_stays (Edge d) is =
      (is.0, each_stays IsShortEdgeRep (renumbered_edge_rep renumber) edge_rep_stays d.reps is.1)
  payload_stays (Face d) is = is
  payload_stays Nothing is = tt

pub heads_can_be_spelled : HeadsCanBeSpelled
heads_can_be_spelled = record {
  sound = λ b version h is short. (
      let payload = short_left (spell_payload version h.payload) (spell_flags h.flags ∷ []) short.1 in
      by_payload b version (Can b version) (vertex_can b version) (edge_can b version) (face_can b version)
      (λ _. tt) h.kind h.payload is payload);
  renumbered = λ renumber p is. payload_stays renumber p is;
}
