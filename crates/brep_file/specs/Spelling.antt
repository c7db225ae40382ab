-- The tokens that a file is spelled by, after its version line: a function of the file's value.
use Rattle.std.specs.Prelude.{ℕ, List, [], ◌∷◌, ◌++◌, length, codes}
use Rattle.std.specs.List.{flat_map}
use Rattle.std.specs.Fmt.{decimal}
use Rattle.orientation.specs.Turns.{sign_of}
use Rattle.location_table.specs.Locations.{spell_location}
use Rattle.curve_tables.specs.Spelling.{spelling2, spelling3}
use Rattle.surface_tables.specs.Spelling.{spell_surface}
use Rattle.mesh_tables.specs.Spelling.{spell_polygon, spell_polygon_on, spell_mesh}
use Rattle.tshape_data.specs.Spelling.{spell_head}
use Rattle.brep_file.specs.declared.uses.FileUse.{FileUse}
use Rattle.brep_file.specs.declared.records.Record.{Record}
use Rattle.brep_file.specs.declared.file.File.{File}

-- a use: its sign joined to the record's number, and the location's number
abbrev pub spell_use : FileUse → List (List ℕ)
spell_use u = (sign_of u.turn ∷ decimal u.number) ∷ decimal u.location ∷ []

-- a record in a file of a version: its head, its uses and `*`
abbrev pub spell_record : ℕ → Record → List (List ℕ)
spell_record version r = spell_head version r.head ++ (flat_map spell_use r.uses ++ codes "*" ∷ [])

-- a section: its word, the count of its entries, and the entries
abbrev pub section : {A : Type 0} → List ℕ → (A → List (List ℕ)) → List A → List (List ℕ)
section word spell entries = word ∷ decimal (length entries) ∷ flat_map spell entries

-- the sections before the records
abbrev pub spell_tables : File → List (List ℕ)
spell_tables f =
    section (codes "Locations") spell_location f.locations
    ++ (section (codes "Curve2ds") spelling2 f.curve2s
    ++ (section (codes "Curves") spelling3 f.curves
    ++ (section (codes "Polygon3D") spell_polygon f.polygons
    ++ (section (codes "PolygonOnTriangulations") spell_polygon_on f.polygons_on
    ++ (section (codes "Surfaces") spell_surface f.surfaces
    ++ section (codes "Triangulations") spell_mesh f.meshes)))))

abbrev pub spell_file : File → List (List ℕ)
spell_file f = spell_tables f ++ (section (codes "TShapes") (spell_record f.version) f.records ++ spell_use f.root)
