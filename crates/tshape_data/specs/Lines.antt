-- The lines that a record without its uses is written on.
use Rattle.std.specs.Prelude.{ℕ, List, [], ◌∷◌, ◌++◌, map, take, drop, Option, Some, None, codes}
use Rattle.std.specs.List.{flat_map}
use Rattle.std.specs.Fmt.{decimal}
use Rattle.brep_tokens.specs.Forms.{flag_text}
use Rattle.orientation.specs.Kinds.{name_of}
use Rattle.tshape_data.specs.Columns.{edge_columns, edge_number}
use Rattle.tshape_data.specs.Flags.{spell_flags}
use Rattle.tshape_data.specs.Parts.{column_parts, edge_flags, mesh_parts, point_parts, texts_in}
use Rattle.tshape_data.specs.Reps.{form_of_edge, numbers_of_edge}
use Rattle.tshape_data.specs.Spelling.{part_text}
use Rattle.tshape_data.specs.declared.forms.EdgeForm.{EdgeForm}
use Rattle.tshape_data.specs.declared.forms.EdgeForm.TheVariants as edges
use Rattle.tshape_data.specs.declared.reps.PointRep.{PointRep}
use Rattle.tshape_data.specs.declared.reps.EdgeRep.{EdgeRep}
use Rattle.tshape_data.specs.declared.head.Payload.{Payload}
use Rattle.tshape_data.specs.declared.head.Payload.TheVariants.{Vertex, Edge, Face, Nothing}
use Rattle.tshape_data.specs.declared.head.Head.{Head}

abbrev pub Line : Type 0
Line = List (List ℕ)

abbrev pub point_line : PointRep → Line
point_line p = map part_text (point_parts p)

-- the third word is joined to the second
abbrev pub with_third_joined : Line → Line
with_third_joined [] = []
with_third_joined (a ∷ []) = a ∷ []
with_third_joined (a ∷ b ∷ []) = a ∷ b ∷ []
with_third_joined (a ∷ b ∷ c ∷ rest) = a ∷ (b ++ c) ∷ rest

-- of two p-curves on a closed surface the continuity word is joined to the number before it
abbrev pub as_written : EdgeForm → Line → Line
as_written edges.Seam words = with_third_joined words
as_written _ words = words

-- the words of a representation's numbers
abbrev pub number_words : EdgeRep → Line
number_words r = as_written (form_of_edge r)
    (map part_text (column_parts (edge_columns (form_of_edge r)) (numbers_of_edge r)))

-- the UV points, where there are any
abbrev pub uv_lines : List (List ℕ) → List Line
uv_lines [] = []
uv_lines (x ∷ xs) = (x ∷ xs) ∷ []

-- a line with all but the UV points, and one with these
abbrev pub edge_rep_lines : ℕ → EdgeRep → List Line
edge_rep_lines version r =
    (decimal (edge_number (form_of_edge r)) ∷ (number_words r ++ take 2 (texts_in version r))) ∷ uv_lines
    (drop 2 (texts_in version r))

abbrev pub mesh_lines : Option ℕ → List Line
mesh_lines None = []
mesh_lines (Some mesh) = map part_text (mesh_parts (Some mesh)) ∷ []

-- the data of a record
abbrev pub payload_lines : ℕ → Payload → List Line
payload_lines version (Vertex d) =
    take 1 d.texts ∷ drop 1 d.texts ∷ (map point_line d.points ++ (codes "0" ∷ codes "0" ∷ []) ∷ [])
payload_lines version (Edge d) =
    (d.tolerance ++ edge_flags d) ∷ (flat_map (edge_rep_lines version) d.reps ++ (codes "0" ∷ []) ∷ [])
payload_lines version (Face d) = (flag_text d.natural ∷ (d.tolerance ++ decimal d.surface ∷ decimal d.location ∷ []))
    ∷ mesh_lines d.mesh
payload_lines version Nothing = []

-- The kind, the data, an empty line and the flags.
abbrev pub head_lines : ℕ → Head → List Line
head_lines version h = (name_of h.kind ∷ []) ∷ (payload_lines version h.payload ++ [] ∷ (spell_flags h.flags ∷ []) ∷ [])
