-- The data of a sound head, whose locations were added, can be written.
use Rattle.std.proofs.Common.{◌≡◌, ◌≤◌, arith, inl, inr, subst, sym, get_or}
use Rattle.std.specs.Prelude.{ℕ, ◌==◌, Bool, true, false, if◌then◌else◌, List, [], All, length}
use Rattle.std.proofs.lemmas.List.Elements.{All-from_recursion}
use Rattle.orientation.specs.declared.kind.Kind.{Kind}
use Rattle.orientation.specs.declared.kind.Kind.TheVariants.{Ve, Ed, Wi, Fa, Sh, So, CS, Co}
use Rattle.tshape_data.specs.Columns.{edge_columns, edge_texts, p_curve_texts}
use Rattle.tshape_data.specs.Locations.{data_locations}
use Rattle.tshape_data.specs.Reps.{form_of_edge, numbers_of_edge}
use Rattle.tshape_data.specs.Sound.{AreInColumns, IsSoundEdge, IsSoundEdgeRep, IsSoundFace, IsSoundPayload}
use Rattle.tshape_data.specs.Sound.{IsSoundPoint, IsSoundVertex}
use Rattle.tshape_data.specs.declared.forms.EdgeForm.{EdgeForm}
use Rattle.tshape_data.specs.declared.forms.EdgeForm.TheVariants as edges
use Rattle.tshape_data.specs.declared.head_bounds.HeadBounds.{HeadBounds}
use Rattle.tshape_data.specs.declared.reps.EdgeRep.{EdgeRep}
use Rattle.tshape_data.specs.declared.reps.EdgeRep.TheVariants as edge_reps
use Rattle.tshape_data.specs.declared.head.VertexData.{VertexData}
use Rattle.tshape_data.specs.declared.head.EdgeData.{EdgeData}
use Rattle.tshape_data.specs.declared.head.FaceData.{FaceData}
use Rattle.tshape_data.specs.declared.head.Payload.{Payload}
use Rattle.tshape_data.specs.declared.head.Payload.TheVariants.{Vertex, Edge, Face, Nothing}
use Rattle.written_locations.specs.declared.written.WrittenLocations.{WrittenLocations}
use Rattle.written_locations.specs.Added.{IsAdded}
use Rattle.written_heads.specs.Named.{edge_locations, point_locations}
use Rattle.written_heads.specs.Versions.{IsOutputOf}
use Rattle.written_heads.specs.Words.{IsContinuous, IsWritablePayload, IsWritten}
use Rattle.written_heads.proofs.LocationLemmas.{all_within, first, in_edge, in_face, in_vertex}

-- ---- decimals of a version
by_test : (b : Bool) → 2 ≤ (if b then 6 else 2)
by_test true = omega arith
by_test false = omega arith

two_at_least : (own : ℕ) → 2 ≤ p_curve_texts own
two_at_least own = by_test (own == 2)

fewer : (own version : ℕ) → IsOutputOf own version → p_curve_texts version ≤ p_curve_texts own
fewer own version output = elim output [
  | inl same ↦ subst (λ v. p_curve_texts v ≤ p_curve_texts own) (sym same) (omega arith)
  | inr one ↦ subst (λ v. p_curve_texts v ≤ p_curve_texts own) (sym one) (two_at_least own)
]

enough : (own version : ℕ) → IsOutputOf own version → (form : EdgeForm) → (n : ℕ) → n ≡ edge_texts own form
    → edge_texts version form ≤ n
enough own version output edges.Curve n long = omega (arith, long)
enough own version output edges.Curve2 n long = let few = fewer own version output in omega (arith, long, few)
enough own version output edges.Seam n long = let few = fewer own version output in omega (arith, long, few)
enough own version output edges.Joint n long = omega arith
enough own version output edges.Polygon n long = omega arith
enough own version output edges.PolygonOn n long = omega arith
enough own version output edges.SeamPolygons n long = omega arith

-- ---- the data of a kind
module _ (b : HeadBounds) (own version : ℕ) (output : IsOutputOf own version) where
  pub sound-vertex : (k : Kind) (d : VertexData) → IsSoundPayload b own k (Vertex d) → IsSoundVertex b d
  sound-vertex Ve d h = h
  sound-vertex Ed d h = absurd h
  sound-vertex Wi d h = absurd h
  sound-vertex Fa d h = absurd h
  sound-vertex Sh d h = absurd h
  sound-vertex So d h = absurd h
  sound-vertex CS d h = absurd h
  sound-vertex Co d h = absurd h

  pub sound-edge : (k : Kind) (d : EdgeData) → IsSoundPayload b own k (Edge d) → IsSoundEdge b own d
  sound-edge Ve d h = absurd h
  sound-edge Ed d h = h
  sound-edge Wi d h = absurd h
  sound-edge Fa d h = absurd h
  sound-edge Sh d h = absurd h
  sound-edge So d h = absurd h
  sound-edge CS d h = absurd h
  sound-edge Co d h = absurd h

  pub sound-face : (k : Kind) (d : FaceData) → IsSoundPayload b own k (Face d) → IsSoundFace b d
  sound-face Ve d h = absurd h
  sound-face Ed d h = absurd h
  sound-face Wi d h = absurd h
  sound-face Fa d h = h
  sound-face Sh d h = absurd h
  sound-face So d h = absurd h
  sound-face CS d h = absurd h
  sound-face Co d h = absurd h

  continuous : (r : EdgeRep) → AreInColumns b (edge_columns (form_of_edge r)) (numbers_of_edge r) → IsContinuous r
  continuous (edge_reps.Curve curve location texts) h = tt
  continuous (edge_reps.Curve2 curve2 surface location texts) h = tt
  continuous (edge_reps.Seam a c continuity surface location texts) h = h.1.1.0
  continuous (edge_reps.Joint continuity a a_location c c_location) h = h.0
  continuous (edge_reps.Polygon polygon location) h = tt
  continuous (edge_reps.PolygonOn polygon_on mesh location) h = tt
  continuous (edge_reps.SeamPolygons a c mesh location) h = tt

  module _ (s : WrittenLocations) where
    both : (locations : List ℕ) → All (λ place. place ≤ length s.section.now) locations → All (IsAdded s) locations
        → All (IsWritten s) locations
    both locations within added k d lt = record { within = within k d lt; added = added k d lt }

    vertex : (d : VertexData) → IsSoundVertex b d → All (IsWritten s) (data_locations version (Vertex d))
        → IsWritablePayload s version (Vertex d)
    vertex d sound locations =
        let each = all_within (IsWritten s) point_locations d.points
        (subst (All (IsWritten s)) (in_vertex version d) locations) in
        let all = All-from_recursion (IsSoundPoint b) d.points sound.points in
        (sound.decimals.0, (λ k p lt. record { texts = (all k p lt).decimals.0; locations = each k p lt }))

    edge : (d : EdgeData) → IsSoundEdge b own d → All (IsWritten s) (data_locations version (Edge d))
        → IsWritablePayload s version (Edge d)
    edge d sound locations =
        let each = all_within (IsWritten s) edge_locations d.reps
        (subst (All (IsWritten s)) (in_edge version d) locations) in
        let all = All-from_recursion (IsSoundEdgeRep b own) d.reps sound.reps in (
          sound.decimals.0,
          (λ k r lt. record {
            texts =
                enough own version output (form_of_edge (get_or d.reps k r)) _ (all k r lt).decimals.0;
            continuity = continuous (get_or d.reps k r) (all k r lt).numbers;
            locations = each k r lt;
          }),
        )

    face : (d : FaceData) → IsSoundFace b d → All (IsWritten s) (data_locations version (Face d))
        → IsWritablePayload s version (Face d)
    face d sound locations = (
      sound.decimals.0,
      first (IsWritten s) d.location []
          (subst (All (IsWritten s)) (in_face version d) locations),
    )

    writable-each : (k : Kind) (p : Payload) → IsSoundPayload b own k p
        → All (IsWritten s) (data_locations version p) → IsWritablePayload s version p
    writable-each k (Vertex d) h locations = vertex d (sound-vertex k d h) locations
    writable-each k (Edge d) h locations = edge d (sound-edge k d h) locations
    writable-each k (Face d) h locations = face d (sound-face k d h) locations
    writable-each k Nothing h locations = tt

    pub writable : (k : Kind) (p : Payload) → IsSoundPayload b own k p
        → All (λ place. place ≤ length s.section.now) (data_locations version p)
        → All (IsAdded s) (data_locations version p) →
        IsWritablePayload s version p
    writable k p h within added = writable-each k p h (both (data_locations version p) within added)
