-- The tokens that data are spelled by.
use Rattle.std.proofs.Common.{◌≡◌, ℕ, List, [], ◌∷◌, ◌++◌, map, take, drop, Option, codes, ap, ◌∙◌, append_assoc}
use Rattle.std.specs.Fmt.{decimal}
use Rattle.std.specs.List.{flat_map}
use Rattle.brep_tokens.specs.Forms.{flag_text}
use Rattle.std.proofs.lemmas.List.{map-append}
use Rattle.tshape_data.specs.Columns.{edge_columns, edge_number, point_columns, point_number}
use Rattle.tshape_data.specs.Parts.{column_parts, edge_flags, edge_rep_parts, entry, mesh_parts, located, point_parts}
use Rattle.tshape_data.specs.Parts.{texts_in, token, tokens}
use Rattle.tshape_data.specs.Reps.{form_of_edge, form_of_point, numbers_of_edge, numbers_of_point, texts_of_point}
use Rattle.tshape_data.specs.Spelling.{part_text, spell_payload}
use Rattle.tshape_data.specs.declared.columns.Table.TheVariants.{Surfaces}
use Rattle.tshape_data.specs.declared.reps.PointRep.{PointRep}
use Rattle.tshape_data.specs.declared.reps.EdgeRep.{EdgeRep}
use Rattle.tshape_data.specs.declared.head.VertexData.{VertexData}
use Rattle.tshape_data.specs.declared.head.EdgeData.{EdgeData}
use Rattle.tshape_data.specs.declared.head.FaceData.{FaceData}
use Rattle.tshape_data.specs.declared.head.Payload.TheVariants.{Vertex, Edge, Face}
use Rattle.tshape_data.proofs.ColumnLaws.{number_texts}
use Rattle.tshape_data.proofs.PartLaws.{each_then, texts_of_tokens, texts_then}

-- of a representation
abbrev pub point_rep_texts : PointRep → List (List ℕ)
point_rep_texts p = map part_text (point_parts p)

abbrev pub edge_rep_texts : ℕ → EdgeRep → List (List ℕ)
edge_rep_texts version r = map part_text (edge_rep_parts version r)

pub point_rep_spelled : (p : PointRep)
    → point_rep_texts p ≡ take 1 (texts_of_point p) ++ decimal (point_number (form_of_point p))
    ∷ (drop 1 (texts_of_point p) ++ number_texts (point_columns (form_of_point p)) (numbers_of_point p))
point_rep_spelled p =
    let texts = texts_of_point p in
    let number = decimal (point_number (form_of_point p)) in
    let columns = column_parts (point_columns (form_of_point p)) (numbers_of_point p) in
    texts_then (take 1 texts) (token number ∷ (tokens (drop 1 texts) ++ columns))
    ∙ ap (λ (z : List (List ℕ)). take 1 texts ++ number ∷ z) (texts_then (drop 1 texts) columns)

pub edge_rep_spelled : (version : ℕ) (r : EdgeRep)
    → edge_rep_texts version r ≡ decimal (edge_number (form_of_edge r))
    ∷ (number_texts (edge_columns (form_of_edge r)) (numbers_of_edge r) ++ texts_in version r)
edge_rep_spelled version r =
    ap (λ (z : List (List ℕ)). decimal (edge_number (form_of_edge r)) ∷ z)
    (map-append part_text (column_parts (edge_columns (form_of_edge r)) (numbers_of_edge r))
    (tokens (texts_in version r))
    ∙ ap (λ (z : List (List ℕ)). number_texts (edge_columns (form_of_edge r)) (numbers_of_edge r) ++ z)
    (texts_of_tokens (texts_in version r)))

-- of a vertex, an edge and a face
abbrev pub vertex_end : List (List ℕ)
vertex_end = codes "0" ∷ codes "0" ∷ []

abbrev pub vertex_texts : VertexData → List (List ℕ)
vertex_texts d = d.texts ++ (flat_map point_rep_texts d.points ++ vertex_end)

pub vertex_spelled : (version : ℕ) (d : VertexData) → spell_payload version (Vertex d) ≡ vertex_texts d
vertex_spelled version d =
    let end = token (codes "0") ∷ token (codes "0") ∷ [] in
    texts_then d.texts (flat_map point_parts d.points ++ end) ∙ ap (λ (z : List (List ℕ)). d.texts ++ z)
    (each_then point_parts d.points end)

abbrev pub edge_end : List (List ℕ)
edge_end = codes "0" ∷ []

abbrev pub edge_reps_texts : ℕ → List EdgeRep → List (List ℕ)
edge_reps_texts version reps = flat_map (edge_rep_texts version) reps ++ edge_end

abbrev pub edge_texts_of : ℕ → EdgeData → List (List ℕ)
edge_texts_of version d = d.tolerance ++ (edge_flags d ++ edge_reps_texts version d.reps)

pub edge_spelled : (version : ℕ) (d : EdgeData) → spell_payload version (Edge d) ≡ edge_texts_of version d
edge_spelled version d =
    let end = token (codes "0") ∷ [] in
    texts_then (d.tolerance ++ edge_flags d) (flat_map (edge_rep_parts version) d.reps ++ end)
    ∙ ap (λ (z : List (List ℕ)). (d.tolerance ++ edge_flags d) ++ z) (each_then (edge_rep_parts version) d.reps end)
    ∙ append_assoc d.tolerance (edge_flags d) (edge_reps_texts version d.reps)

abbrev pub mesh_texts : Option ℕ → List (List ℕ)
mesh_texts mesh = map part_text (mesh_parts mesh)

abbrev pub face_texts : FaceData → List (List ℕ)
face_texts d = flag_text d.natural ∷ (d.tolerance ++ decimal d.surface ∷ decimal d.location ∷ mesh_texts d.mesh)

pub face_spelled : (version : ℕ) (d : FaceData) → spell_payload version (Face d) ≡ face_texts d
face_spelled version d = ap (λ (z : List (List ℕ)). flag_text d.natural ∷ z)
    (texts_then d.tolerance (entry Surfaces d.surface ∷ located d.location ∷ mesh_parts d.mesh))
