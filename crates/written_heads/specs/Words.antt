-- The words of lines, each with a space before it, and the data whose lines can be written.
use Rattle.std.specs.Prelude.{◌≡◌, ◌<◌, ◌≤◌, ◌+◌, ℕ, List, ◌∷◌, ◌++◌, All, length, take, drop}
use Rattle.std.specs.Fmt.{decimal}
use Rattle.std.specs.List.{flat_map, join_with_byte}
use Rattle.brep_tokens.specs.Written.{line_text, lines_text}
use Rattle.tshape_data.specs.Columns.{edge_texts, second_texts}
use Rattle.tshape_data.specs.Lines.{edge_rep_lines, head_lines, number_words, payload_lines, point_line, uv_lines}
use Rattle.tshape_data.specs.Locations.{renumbered_edge_rep, renumbered_head, renumbered_payload, renumbered_point}
use Rattle.tshape_data.specs.Parts.{texts_in}
use Rattle.tshape_data.specs.Reps.{form_of_edge, form_of_point, texts_of_edge, texts_of_point}
use Rattle.tshape_data.specs.declared.reps.EdgeRep.{EdgeRep}
use Rattle.tshape_data.specs.declared.reps.EdgeRep.TheVariants as edge_reps
use Rattle.tshape_data.specs.declared.reps.PointRep.{PointRep}
use Rattle.tshape_data.specs.declared.head.Head.{Head}
use Rattle.tshape_data.specs.declared.head.Payload.{Payload}
use Rattle.tshape_data.specs.declared.head.Payload.TheVariants.{Vertex, Edge, Face, Nothing}
use Rattle.written_heads.specs.Named.{edge_locations, point_locations}
use Rattle.written_locations.specs.declared.written.WrittenLocations.{WrittenLocations}
use Rattle.written_locations.specs.Added.{IsAdded, location_number}

-- a space before each word
abbrev pub spaced : List (List ℕ) → List ℕ
spaced words = flat_map (λ (word : List ℕ). 32 ∷ word) words

-- a space before each number
abbrev pub entries_text : List ℕ → List ℕ
entries_text entries = flat_map (λ (n : ℕ). 32 ∷ decimal n) entries

-- a place of the section that was added
pub record IsWritten (s : WrittenLocations) (place : ℕ) : Type 0 where
  pub within : place ≤ length s.section.now
  pub added : IsAdded s place

-- the places of continuity words are among those of the seven
abbrev pub IsContinuous : EdgeRep → Type 0
IsContinuous (edge_reps.Curve curve location texts) = Unit {0}
IsContinuous (edge_reps.Curve2 curve2 surface location texts) = Unit {0}
IsContinuous (edge_reps.Seam first second continuity surface location texts) = continuity < 7
IsContinuous (edge_reps.Joint continuity first first_location second second_location) = continuity < 7
IsContinuous (edge_reps.Polygon polygon location) = Unit {0}
IsContinuous (edge_reps.PolygonOn polygon_on mesh location) = Unit {0}
IsContinuous (edge_reps.SeamPolygons first second mesh location) = Unit {0}

-- a representation of an edge with at least as many decimals as its form has in a version, whose locations were added
pub record IsWritableEdge (s : WrittenLocations) (version : ℕ) (r : EdgeRep) : Type 0 where
  pub texts : edge_texts version (form_of_edge r) ≤ length (texts_of_edge r)
  pub continuity : IsContinuous r
  pub locations : All (IsWritten s) (edge_locations r)

-- and one of a vertex
pub record IsWritablePoint (s : WrittenLocations) (p : PointRep) : Type 0 where
  pub texts : length (texts_of_point p) ≡ 1 + second_texts (form_of_point p)
  pub locations : All (IsWritten s) (point_locations p)

-- the two parameters and the end of the line, and the line of the UV points
abbrev pub decimals_text : List (List ℕ) → List ℕ
decimals_text texts = spaced (take 2 texts) ++ 10 ∷ lines_text (uv_lines (drop 2 texts))

-- those that a representation has in a version
abbrev pub parameters_text : ℕ → EdgeRep → List ℕ
parameters_text version r = decimals_text (texts_in version r)

-- the lines of a vertex's tolerance and of its coordinates
unfoldable pub vertex_texts : List (List ℕ) → List ℕ
vertex_texts texts = line_text (take 1 texts) ++ line_text (drop 1 texts)

-- data with at least as many decimals as they have in a version, whose locations were added
abbrev pub IsWritablePayload : WrittenLocations → ℕ → Payload → Type 0
IsWritablePayload s version (Vertex d) = (length d.texts ≡ 4) × All (IsWritablePoint s) d.points
IsWritablePayload s version (Edge d) = (length d.tolerance ≡ 1) × All (IsWritableEdge s version) d.reps
IsWritablePayload s version (Face d) = (length d.tolerance ≡ 1) × IsWritten s d.location
IsWritablePayload s version Nothing = Unit {0}

-- ---- what is written, with the locations by the numbers of their words

-- entries, and a location
abbrev pub located_text : WrittenLocations → List ℕ → ℕ → List ℕ
located_text s entries location = entries_text entries ++ 32 ∷ decimal (location_number s location)

-- the words of an edge's representation behind the number of its form, up to its decimals
abbrev pub written_numbers : WrittenLocations → EdgeRep → List ℕ
written_numbers s r = spaced (number_words (renumbered_edge_rep (location_number s) r))

-- the lines of an edge's representation
abbrev pub written_edge_rep : WrittenLocations → ℕ → EdgeRep → List ℕ
written_edge_rep s version r = lines_text (edge_rep_lines version (renumbered_edge_rep (location_number s) r))

-- the words of a vertex's representation
abbrev pub written_words : WrittenLocations → PointRep → List ℕ
written_words s p = join_with_byte 32 (point_line (renumbered_point (location_number s) p))

-- and its line
abbrev pub written_point : WrittenLocations → PointRep → List ℕ
written_point s p = line_text (point_line (renumbered_point (location_number s) p))

-- the lines of a record's data
abbrev pub written_payload : WrittenLocations → ℕ → Payload → List ℕ
written_payload s version p = lines_text (payload_lines version (renumbered_payload (location_number s) p))

-- The lines of a record's head.
abbrev pub written_head : WrittenLocations → ℕ → Head → List ℕ
written_head s version h = lines_text (head_lines version (renumbered_head (location_number s) h))
