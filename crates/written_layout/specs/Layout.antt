-- The written layout of a file: which words stand on which line.
use Rattle.std.specs.Prelude.{ℕ, List, [], ◌∷◌, ◌++◌, length, map, codes}
use Rattle.std.specs.List.{flat_map, join_with_byte}
use Rattle.std.specs.Fmt.{decimal, signed_decimal}
use Rattle.brep_tokens.specs.Tokens.{version_line}
use Rattle.brep_tokens.specs.Written.{lines_text}
use Rattle.location_words.specs.declared.pair.Pair.{Pair}
use Rattle.location_table.specs.Locations.{spell_location}
use Rattle.location_table.specs.Words.{datums_of}
use Rattle.location_table.specs.Written.{product_of, written_section}
use Rattle.location_table.specs.declared.entry.LocationEntry.{LocationEntry}
use Rattle.location_table.specs.declared.entry.LocationEntry.TheVariants.{Datum}
use Rattle.curve_tables.specs.Spelling.{spelling2, spelling3}
use Rattle.mesh_tables.specs.Spelling.{spell_polygon, spell_polygon_on, spell_mesh}
use Rattle.surface_tables.specs.Spelling.{spell_surface}
use Rattle.tshape_data.specs.Lines.{head_lines}
use Rattle.brep_file.specs.declared.uses.FileUse.{FileUse}
use Rattle.brep_file.specs.declared.records.Record.{Record}
use Rattle.brep_file.specs.declared.file.File.{File}
use Rattle.brep_file.specs.Spelling.{spell_use}
use Rattle.written_locations.specs.declared.written.WrittenLocations.{WrittenLocations}
use Rattle.written_locations.specs.Added.{further_of}

abbrev pub Line : Type 0
Line = List (List ℕ)

-- a section's word and the count of its entries
abbrev pub heading : List ℕ → ℕ → Line
heading word count = word ∷ decimal count ∷ []

-- a section: its heading, and each entry on a line
abbrev pub section_lines : {A : Type 0} → List ℕ → (A → Line) → List A → List Line
section_lines word spell entries = heading word (length entries) ∷ map spell entries

-- the locations that are written: the datums, and the further words
abbrev pub locations_of : WrittenLocations → List LocationEntry
locations_of s = written_section (datums_of s.section.now) (further_of s)

abbrev pub location_lines : List LocationEntry → List Line
location_lines locations = section_lines (codes "Locations") spell_location locations

-- its text
abbrev pub section_text : {A : Type 0} → List ℕ → (A → Line) → List A → List ℕ
section_text word spell entries = lines_text (section_lines word spell entries)

-- the text of the section of locations
abbrev pub locations_text : List LocationEntry → List ℕ
locations_text locations = lines_text (location_lines locations)

-- the lines of a section's datums
abbrev pub datums_text : List LocationEntry → List ℕ
datums_text section = lines_text (map spell_location (map Datum (datums_of section)))

-- the lines of words that are neither the identity nor one datum
abbrev pub words_text : List (List Pair) → List ℕ
words_text words = lines_text (map spell_location (map product_of words))

-- the number and the power of a pair, each after a space
abbrev pub pair_text : Pair → List ℕ
pair_text pair = 32 ∷ (decimal pair.datum ++ 32 ∷ signed_decimal pair.power)

-- the sections after the locations and before the records
abbrev pub table_lines : File → List Line
table_lines f =
    section_lines (codes "Curve2ds") spelling2 f.curve2s
    ++ (section_lines (codes "Curves") spelling3 f.curves
    ++ (section_lines (codes "Polygon3D") spell_polygon f.polygons
    ++ (section_lines (codes "PolygonOnTriangulations") spell_polygon_on f.polygons_on
    ++ (section_lines (codes "Surfaces") spell_surface f.surfaces
    ++ section_lines (codes "Triangulations") spell_mesh f.meshes))))

-- all that comes before the records in a version: the version line, these locations and the tables
abbrev pub text_before_records : ℕ → File → List LocationEntry → List ℕ
text_before_records version f locations =
    ((version_line version ++ 10 ∷ []) ++ lines_text (location_lines locations)) ++ lines_text (table_lines f)

-- a record of a file of a version: its kind, its data, an empty line, its flags, and its uses with `*`
abbrev pub record_lines : ℕ → Record → List Line
record_lines version r = head_lines version r.head ++ (flat_map spell_use r.uses ++ codes "*" ∷ []) ∷ []

-- a use with a space after it
abbrev pub spaced_use : FileUse → List ℕ
spaced_use u = join_with_byte 32 (spell_use u) ++ 32 ∷ []

-- the heading of the records, the records and the root use
abbrev pub shape_lines : File → List Line
shape_lines f =
    heading (codes "TShapes") (length f.records)
    ∷ (flat_map (record_lines f.version) f.records ++ spell_use f.root ∷ [])

-- the lines after the version line
abbrev pub file_lines : File → List Line
file_lines f = (location_lines f.locations ++ table_lines f) ++ shape_lines f

-- the text of a file by the written layout
abbrev pub layout : File → List ℕ
layout f = version_line f.version ++ 10 ∷ lines_text (file_lines f)
