-- What the iterator over a head's tokens gives first, and what then.
use Rattle.std.proofs.Common.{◌≡◌, ℕ, ◌-◌, ◌≤◌, List, [], ◌∷◌, ◌++◌, length, take, drop, slice_index_or, refl, sym, ap}
use Rattle.std.proofs.Common.{◌∙◌, append_assoc, arith}
use Rattle.std.specs.Fmt.{decimal}
use Rattle.std.specs.List.{flat_map}
use Rattle.std.proofs.lemmas.List.{take_all}
use Rattle.brep_tokens.specs.Forms.{flag_text}
use Rattle.orientation.specs.Kinds.{name_of}
use Rattle.tshape_data.specs.Columns.{point_number}
use Rattle.tshape_data.specs.Flags.{spell_flags}
use Rattle.tshape_data.specs.Parts.{edge_flags}
use Rattle.tshape_data.specs.Reps.{form_of_point, texts_of_point}
use Rattle.tshape_data.specs.SpellLeft.{edges_left, points_left, rest_texts}
use Rattle.tshape_data.specs.Spelling.{spell_head, spell_payload}
use Rattle.tshape_data.specs.declared.reps.PointRep.{PointRep}
use Rattle.tshape_data.specs.declared.head.EdgeData.{EdgeData}
use Rattle.tshape_data.specs.declared.head.FaceData.{FaceData}
use Rattle.tshape_data.specs.declared.head.Flags.{Flags}
use Rattle.tshape_data.specs.declared.head.Head.{Head}
use Rattle.tshape_data.specs.declared.head.VertexData.{VertexData}
use Rattle.tshape_data.specs.declared.head.Payload.TheVariants.{Vertex, Edge, Face, Nothing}
use Rattle.tshape_data.proofs.PayloadTexts.{edge_rep_texts, edge_reps_texts, edge_spelled, face_spelled, mesh_texts}
use Rattle.tshape_data.proofs.PayloadTexts.{point_rep_spelled, point_rep_texts, vertex_end, vertex_spelled}

-- the first of a list and the others
pub first_of : {A : Type 0} (xs : List A) (x : A) → 1 ≤ length xs → x ≡ slice_index_or xs 0 x
    → xs ≡ x ∷ take (length xs - 1) (drop 1 xs)
first_of [] x some e = absurd (omega (arith, some))
first_of (y ∷ ys) x some e =
    let n : length (y ∷ ys) - 1 ≡ length ys = omega arith in
    rw (n, take_all (length ys) ys (omega arith), e) refl

-- a representation of a vertex and the others
pub points_begin : (flags : Flags) (p : PointRep) (points : List PointRep)
    → (take 1 (texts_of_point p) ++ decimal (point_number (form_of_point p)) ∷ [])
    ++ (rest_texts p ++ points_left flags points) ≡ points_left flags (p ∷ points)
points_begin flags p points =
    let number = decimal (point_number (form_of_point p)) in
    let end = vertex_end ++ spell_flags flags ∷ [] in
    append_assoc (take 1 (texts_of_point p)) (number ∷ []) (rest_texts p ++ points_left flags points)
    ∙ sym (append_assoc (take 1 (texts_of_point p)) (number ∷ rest_texts p) (points_left flags points))
    ∙ ap (λ (z : List (List ℕ)). z ++ points_left flags points) (sym (point_rep_spelled p))
    ∙ sym (append_assoc (point_rep_texts p) (flat_map point_rep_texts points) end)

-- ---- a whole head

module _ (version : ℕ) (h : Head) where
  abbrev marks : List (List ℕ)
  marks = spell_flags h.flags ∷ []

  pub vertex_begins : (d : VertexData) → h.payload ≡ Vertex d
      → (name_of h.kind ∷ d.texts) ++ points_left h.flags d.points ≡ spell_head version h
  vertex_begins d is =
      let points = flat_map point_rep_texts d.points in
      let whole : spell_payload version (Vertex d) ++ marks ≡ d.texts ++ points_left h.flags d.points =
      ap (λ (z : List (List ℕ)). z ++ marks) (vertex_spelled version d)
      ∙ append_assoc d.texts (points ++ vertex_end) marks ∙ ap (λ (z : List (List ℕ)). d.texts ++ z)
      (append_assoc points vertex_end marks) in
      rw is (ap (λ (z : List (List ℕ)). name_of h.kind ∷ z) (sym whole))

  pub edge_begins : (d : EdgeData) → h.payload ≡ Edge d
      → (name_of h.kind ∷ (d.tolerance ++ edge_flags d)) ++ edges_left version h.flags d.reps ≡ spell_head version h
  edge_begins d is =
      let reps = edge_reps_texts version d.reps in
      let same : reps ++ marks ≡ edges_left version h.flags d.reps =
      append_assoc (flat_map (edge_rep_texts version) d.reps) _ marks in
      let whole : spell_payload version (Edge d) ++ marks ≡ (d.tolerance ++ edge_flags d)
      ++ edges_left version h.flags d.reps =
      ap (λ (z : List (List ℕ)). z ++ marks) (edge_spelled version d
      ∙ sym (append_assoc d.tolerance (edge_flags d) reps)) ∙ append_assoc (d.tolerance ++ edge_flags d) reps marks
      ∙ ap (λ (z : List (List ℕ)). (d.tolerance ++ edge_flags d) ++ z) same in
      rw is (ap (λ (z : List (List ℕ)). name_of h.kind ∷ z) (sym whole))

  pub face_begins : (d : FaceData) → h.payload ≡ Face d
      → (name_of h.kind ∷ flag_text d.natural ∷ (d.tolerance ++ decimal d.surface ∷ decimal d.location
      ∷ mesh_texts d.mesh)) ++ marks ≡ spell_head version h
  face_begins d is = rw is (ap (λ (z : List (List ℕ)). name_of h.kind ∷ (z ++ marks)) (sym (face_spelled version d)))

  pub nothing_begins : h.payload ≡ Nothing → (name_of h.kind ∷ []) ++ marks ≡ spell_head version h
  nothing_begins is = rw is refl
