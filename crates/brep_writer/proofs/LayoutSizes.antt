-- How long the layout of a sound file is at most, by its lines and its tokens.
use Rattle.std.proofs.Common.{◌≡◌, ◌≤◌, ◌-◌, ◌∙◌, ap, subst, arith, get_or}
use Rattle.std.specs.Prelude.{ℕ, ◌+◌, ◌*◌, List, [], ◌∷◌, ◌++◌, length, map, codes, slice_get}
use Rattle.std.specs.List.{AllByRecursion, flat_map}
use Rattle.std.proofs.lemmas.List.{length-append}
use Rattle.std.proofs.lemmas.List.Elements.{recursion_from_All}
use Rattle.std.proofs.lemmas.Option.{slice_get-get_or}
use Rattle.brep_tokens.specs.Tokens.{version_line}
use Rattle.brep_tokens.specs.Written.{lines_text}
use Rattle.location_table.specs.Locations.{spell_location}
use Rattle.curve_tables.specs.Spelling.{spelling2, spelling3}
use Rattle.mesh_tables.specs.Spelling.{spell_mesh, spell_polygon, spell_polygon_on}
use Rattle.surface_tables.specs.Spelling.{spell_surface}
use Rattle.tshape_data.specs.Laws.{LinesAreExact}
use Rattle.tshape_data.specs.Lines.{head_lines}
use Rattle.tshape_data.specs.Sound.{IsSoundHead}
use Rattle.tshape_data.specs.Spelling.{spell_head}
use Rattle.brep_file.specs.declared.records.Record.{Record}
use Rattle.brep_file.specs.declared.file.File.{File}
use Rattle.brep_file.specs.Spelling.{section, spell_file, spell_record, spell_tables, spell_use}
use Rattle.brep_file.specs.Sound.{IsSound, sizes_of}
use Rattle.written_layout.specs.Layout.{Line, file_lines, heading, layout, location_lines, record_lines}
use Rattle.written_layout.specs.Layout.{section_lines, shape_lines, table_lines}
use Rattle.brep_writer.proofs.Weights.{IsNoLonger, longer-append, longer-entries, longer-lines, longer-one}
use Rattle.brep_writer.proofs.Weights.{weight-short}

-- ---- tables
-- the tokens of the sections after the locations and before the records
abbrev pub spell_others : File → List (List ℕ)
spell_others f =
    section (codes "Curve2ds") spelling2 f.curve2s
    ++ (section (codes "Curves") spelling3 f.curves
    ++ (section (codes "Polygon3D") spell_polygon f.polygons
    ++ (section (codes "PolygonOnTriangulations") spell_polygon_on f.polygons_on
    ++ (section (codes "Surfaces") spell_surface f.surfaces
    ++ section (codes "Triangulations") spell_mesh f.meshes))))

longer-section : {A : Type 0} (word : List ℕ) (spell : A → Line) (entries : List A)
    → IsNoLonger (section_lines word spell entries) (section word spell entries)
longer-section word spell entries =
    longer-append (heading word (length entries) ∷ []) (map spell entries) (heading word (length entries))
    (flat_map spell entries) (longer-one (heading word (length entries))) (longer-entries spell entries)

-- a section before others
before-others : {A : Type 0} (word : List ℕ) (spell : A → Line) (entries : List A) (others : List Line)
    (tokens : List (List ℕ)) → IsNoLonger others tokens →
    IsNoLonger (section_lines word spell entries ++ others) (section word spell entries ++ tokens)
before-others word spell entries others tokens longer =
    longer-append (section_lines word spell entries) others (section word spell entries) tokens
    (longer-section word spell entries) longer

tables-longer : (f : File) → IsNoLonger (table_lines f) (spell_others f)
tables-longer f =
    before-others (codes "Curve2ds") spelling2 f.curve2s _ _
    (before-others (codes "Curves") spelling3 f.curves _ _
    (before-others (codes "Polygon3D") spell_polygon f.polygons _ _
    (before-others (codes "PolygonOnTriangulations") spell_polygon_on f.polygons_on _ _
    (before-others (codes "Surfaces") spell_surface f.surfaces _ _
    (longer-section (codes "Triangulations") spell_mesh f.meshes)))))

-- ---- records
module _ (exact : LinesAreExact) (f : File) where
  abbrev HasHead : Record → Type 0
  HasHead r = IsSoundHead (sizes_of f) f.version r.head

  record-longer : (r : Record) → HasHead r → IsNoLonger (record_lines f.version r) (spell_record f.version r)
  record-longer r sound =
      let head = exact (sizes_of f) f.version r.head sound in
      longer-append (head_lines f.version r.head) ((flat_map spell_use r.uses ++ codes "*" ∷ []) ∷ [])
      (spell_head f.version r.head) (flat_map spell_use r.uses ++ codes "*" ∷ [])
      (subst (IsNoLonger (head_lines f.version r.head)) head.tokens (longer-lines (head_lines f.version r.head)))
      (longer-one (flat_map spell_use r.uses ++ codes "*" ∷ []))

  records-longer : (rs : List Record) → AllByRecursion HasHead rs
      → IsNoLonger (flat_map (record_lines f.version) rs) (flat_map (spell_record f.version) rs)
  records-longer [] sound = omega arith
  records-longer (r ∷ rs) sound =
      longer-append (record_lines f.version r) (flat_map (record_lines f.version) rs) (spell_record f.version r)
      (flat_map (spell_record f.version) rs) (record-longer r sound.0) (records-longer rs sound.1)

  shapes-longer : AllByRecursion HasHead f.records
      → IsNoLonger (shape_lines f) (section (codes "TShapes") (spell_record f.version) f.records ++ spell_use f.root)
  shapes-longer sound =
      longer-append (heading (codes "TShapes") (length f.records) ∷ [])
      (flat_map (record_lines f.version) f.records ++ spell_use f.root ∷ [])
      (heading (codes "TShapes") (length f.records)) (flat_map (spell_record f.version) f.records ++ spell_use f.root)
      (longer-one (heading (codes "TShapes") (length f.records)))
      (longer-append (flat_map (record_lines f.version) f.records) (spell_use f.root ∷ [])
      (flat_map (spell_record f.version) f.records) (spell_use f.root)
      (records-longer f.records sound) (longer-one (spell_use f.root)))

  sound-heads : IsSound f → AllByRecursion HasHead f.records
  sound-heads sound = recursion_from_All HasHead f.records (λ k d lt.
      let back : length f.records - (length f.records - k) ≡ k = omega (arith, lt) in
      (sound.records (length f.records - k) (get_or f.records k d) (omega (arith, lt), omega arith)
      (ap (λ i. slice_get f.records i) back ∙ slice_get-get_or f.records k d lt)).head)

  file-longer : IsSound f → IsNoLonger (file_lines f) (spell_file f)
  file-longer sound =
      longer-append (location_lines f.locations ++ table_lines f) (shape_lines f) (spell_tables f)
      (section (codes "TShapes") (spell_record f.version) f.records ++ spell_use f.root)
      (longer-append (location_lines f.locations) (table_lines f)
      (section (codes "Locations") spell_location f.locations) (spell_others f)
      (longer-section (codes "Locations") spell_location f.locations) (tables-longer f))
      (shapes-longer (sound-heads sound))

version-size : (version : ℕ) → length (version_line version) ≤ 64
unfolding version_line
version-size version = omega arith

-- the version line, the lines, and for each token at most 128 bytes and one after it
pub layout-size : (exact : LinesAreExact) (f : File) → IsSound f
    → length (layout f) ≤ 65 + length (file_lines f) + 129 * length (spell_file f)
layout-size exact f sound =
    let size = length-append (version_line f.version) (10 ∷ lines_text (file_lines f)) in
    let first = version-size f.version in let rest = file-longer exact f sound in
    let short = weight-short (spell_file f) sound.tokens in
    omega (arith, size, first, rest, short)
