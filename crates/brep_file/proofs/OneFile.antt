-- A text spells one file at most, however large the file is.
use Rattle.std.proofs.Common.{◌≡◌, ℕ, List, [], ◌∷◌, ◌++◌, length, refl, sym, ap, subst, ◌∙◌, arith}
use Rattle.std.specs.Prelude.{codes}
use Rattle.std.specs.List.{flat_map}
use Rattle.std.specs.Fmt.{decimal}
use Rattle.brep_tokens.specs.Laws.{FormsAreExact}
use Rattle.brep_tokens.specs.declared.text.Token.{Token}
use Rattle.entry_readers.specs.Reading.{Read}
use Rattle.entry_readers.specs.Begins.{Begins, IsExact, FieldsAreExact}
use Rattle.lists.proofs.Results.{ok_is}
use Rattle.orientation.specs.Laws.{SignsAndNamesTell}
use Rattle.location_table.specs.Sections.{SectionsAreExact}
use Rattle.location_table.specs.Locations.{spell_location}
use Rattle.location_table.specs.declared.entry.LocationEntry.{LocationEntry}
use Rattle.curve_tables.specs.Curves.{curve2_at, curve3_at}
use Rattle.curve_tables.specs.Laws.{CurvesAreExact}
use Rattle.curve_tables.specs.Sound.{IsSound2, IsSound3}
use Rattle.curve_tables.specs.Spelling.{spelling2, spelling3}
use Rattle.surface_tables.specs.Laws.{SurfacesAreExact}
use Rattle.surface_tables.specs.Surfaces.{surface_at}
use Rattle.surface_tables.specs.Sound.{IsSoundSurface}
use Rattle.surface_tables.specs.Spelling.{spell_surface}
use Rattle.mesh_tables.specs.Laws.{MeshesAreExact}
use Rattle.mesh_tables.specs.Meshes.{polygon_at, polygon_on_at, mesh_at}
use Rattle.mesh_tables.specs.Sound.{IsSoundPolygon, IsSoundPolygonOn, IsSoundMesh}
use Rattle.mesh_tables.specs.Spelling.{spell_polygon, spell_polygon_on, spell_mesh}
use Rattle.tshape_data.specs.Laws.{HeadsTell}
use Rattle.tshape_data.specs.Spelling.{spell_head}
use Rattle.tshape_data.specs.declared.head_bounds.HeadBounds.{HeadBounds}
use Rattle.tshape_data.specs.declared.head.Head.{Head}
use Rattle.brep_file.specs.declared.uses.FileUse.{FileUse}
use Rattle.brep_file.specs.declared.records.Record.{Record}
use Rattle.brep_file.specs.declared.file.File.{File}
use Rattle.brep_file.specs.Sound.{Limits, sizes_of}
use Rattle.brep_file.specs.Spelling.{section, spell_use, spell_record, spell_file}
use Rattle.brep_file.specs.RecordReading.{RecordBounds, Gathered, SoFar, none_gathered, nothing_read, root_at}
use Rattle.brep_file.specs.RecordReading.{uses_from}
use Rattle.brep_file.specs.SectionReading.{location_section_at, section_at}
use Rattle.brep_file.proofs.LocationLaws.{FitLocations, locations_section}
use Rattle.brep_file.proofs.SectionLaws.{heading_again, section_is_exact}
use Rattle.brep_file.proofs.UseLaws.{spell_uses, uses_again, with_uses, with_uses-uses}
use Rattle.brep_file.proofs.RecordLaws.{FitAll, FitsRecord, after}
use Rattle.brep_file.proofs.FileParts.{FitFile, FitRecords, FitsEnd, FitsTable, bounds_of, regrouped, root_again}
use Rattle.brep_file.proofs.FileParts.{spell_from_curve2s, spell_from_curves, spell_from_meshes, spell_from_polygons}
use Rattle.brep_file.proofs.FileParts.{spell_from_polygons_on, spell_from_records, spell_from_surfaces}

-- ---- what is read exactly is spelled once

module _ (fields : FieldsAreExact) {A : Type 0} (read : List Token → Read A) (spell : A → List (List ℕ)) (P : A
    → Type 0) (exact : IsExact read spell P) where
  pub record AreOne (x y : A) (tail_x tail_y : List (List ℕ)) (rest other : List Token) : Type 0 where
    pub same : x ≡ y
    pub between : List Token
    pub first : Begins between tail_x rest
    pub second : Begins between tail_y other

  pub one_value : (x y : A) (tail_x tail_y : List (List ℕ)) (ts rest other : List Token) → P x → P y
      → Begins ts (spell x ++ tail_x) rest → Begins ts (spell y ++ tail_y) other → AreOne x y tail_x tail_y rest other
  one_value x y tail_x tail_y ts rest other is_x is_y begins_x begins_y =
      let s = fields.split ts (spell x) tail_x rest begins_x in
      let t = fields.split ts (spell y) tail_y other begins_y in
      let pair = ok_is (x, s.0) (y, t.0) (sym (exact.again ts s.0 x s.1 is_x) ∙ exact.again ts t.0 y t.1 is_y) in
      record {
        same = ap (λ (q : A × List Token). q.0) pair;
        between = s.0;
        first = s.2;
        second = subst (λ (m : List Token). Begins m tail_y other) (sym (ap (λ (q : A × List Token). q.1) pair)) t.2;
      }

-- ---- records

module _ (forms : FormsAreExact) (fields : FieldsAreExact) (names : SignsAndNamesTell) (tell : HeadsTell)
    (b : RecordBounds) (reps : ℕ) where
  abbrev made : Head → List FileUse → Record
  made h us = record { head = h; uses = us }

  one_record : (s : SoFar) (r q : Record) (ts rest other : List Token) → FitsRecord reps b s r → FitsRecord reps b s q
      → Begins ts (spell_record b.version r) rest → Begins ts (spell_record b.version q) other
      → (r ≡ q) × (rest ≡ other)
  one_record s r q ts rest other fits_r fits_q begins_r begins_q =
      let x = fields.split ts (spell_head b.version r.head) (spell_uses r.uses) rest begins_r in
      let y = fields.split ts (spell_head b.version q.head) (spell_uses q.uses) other begins_q in
      let heads = tell b.tables b.version r.head q.head ts x.0 y.0 fits_r.sound fits_q.sound x.1 y.1 in
      let head : r.head ≡ q.head = ap (λ (p : Head × List Token). p.0) heads in
      let between : x.0 ≡ y.0 = ap (λ (p : Head × List Token). p.1) heads in
      let first = uses_again forms fields b s r.head.kind names r.uses none_gathered x.0 rest x.2 fits_r.uses
      (omega (arith, fits_r.few)) in
      let second = uses_again forms fields b s q.head.kind names q.uses none_gathered y.0 other y.2 fits_q.uses
      (omega (arith, fits_q.few)) in
      let same : uses_from b s r.head.kind none_gathered x.0 ≡ uses_from b s q.head.kind none_gathered y.0 =
      ap (λ (h : Head). uses_from b s h.kind none_gathered x.0) head
      ∙ ap (uses_from b s q.head.kind none_gathered) between in
      let pair = ok_is (with_uses b.records s.seen none_gathered r.uses, rest)
      (with_uses b.records s.seen none_gathered q.uses, other) (sym first ∙ same ∙ second) in
      let uses : r.uses ≡ q.uses = sym (with_uses-uses b.records s.seen none_gathered r.uses)
      ∙ ap (λ (p : Gathered × List Token). p.0.uses) pair ∙ with_uses-uses b.records s.seen none_gathered q.uses in (
        ap (λ (h : Head). made h r.uses) head ∙ ap (λ (us : List FileUse). made q.head us) uses,
        ap (λ (p : Gathered × List Token). p.1) pair,
      )

  one_list : (s : SoFar) (rs qs : List Record) (ts rest other : List Token) → length rs ≡ length qs → FitAll reps b s rs
      → FitAll reps b s qs
      → Begins ts (flat_map (spell_record b.version) rs) rest → Begins ts (flat_map (spell_record b.version) qs) other
      → (rs ≡ qs) × (rest ≡ other)
  one_list s [] [] ts rest other count fit_r fit_q begins_r begins_q = (refl, sym begins_r ∙ begins_q)
  one_list s [] (q ∷ qs) ts rest other count fit_r fit_q begins_r begins_q = absurd (omega (arith, count))
  one_list s (r ∷ rs) [] ts rest other count fit_r fit_q begins_r begins_q = absurd (omega (arith, count))
  one_list s (r ∷ rs) (q ∷ qs) ts rest other count fit_r fit_q begins_r begins_q =
      let x = fields.split ts (spell_record b.version r) (flat_map (spell_record b.version) rs) rest begins_r in
      let y = fields.split ts (spell_record b.version q) (flat_map (spell_record b.version) qs) other begins_q in
      let first = one_record s r q ts x.0 y.0 fit_r.0 fit_q.0 x.1 y.1 in
      let fit : FitAll reps b (after b.records s r) qs = subst (λ (z : Record). FitAll reps b (after b.records s z) qs)
      (sym first.0) fit_q.1 in
      let begins : Begins x.0 (flat_map (spell_record b.version) qs) other =
      subst (λ (m : List Token). Begins m (flat_map (spell_record b.version) qs) other) (sym first.1) y.2 in
      let others = one_list (after b.records s r) rs qs x.0 rest other (omega (arith, count)) fit_r.1 fit x.2 begins in
      (ap (λ (z : Record). z ∷ rs) first.0 ∙ ap (λ (zs : List Record). q ∷ zs) others.0, others.1)

-- ---- files

-- the fields are the same
pub record AreAlike (f g : File) : Type 0 where
  pub version : f.version ≡ g.version
  pub locations : f.locations ≡ g.locations
  pub curve2s : f.curve2s ≡ g.curve2s
  pub curves : f.curves ≡ g.curves
  pub polygons : f.polygons ≡ g.polygons
  pub polygons_on : f.polygons_on ≡ g.polygons_on
  pub surfaces : f.surfaces ≡ g.surfaces
  pub meshes : f.meshes ≡ g.meshes

pub alike_sizes : (f g : File) → AreAlike f g → sizes_of f ≡ sizes_of g
alike_sizes f g a = rw (a.locations, a.curve2s, a.curves, a.polygons, a.polygons_on, a.surfaces, a.meshes) refl

pub alike_same : (f g : File) → AreAlike f g → f.records ≡ g.records → f.root ≡ g.root → f ≡ g
alike_same f g a records root =
    ap (λ z. record f { version = z }) a.version
    ∙ ap (λ z. record f { version = g.version; locations = z }) a.locations
    ∙ ap (λ z. record f { version = g.version; locations = g.locations; curve2s = z }) a.curve2s
    ∙ ap (λ z. record f { version = g.version; locations = g.locations; curve2s = g.curve2s; curves = z }) a.curves
    ∙ ap (λ z. record g {
      polygons = z;
      polygons_on = f.polygons_on;
      surfaces = f.surfaces;
      meshes = f.meshes;
      records = f.records;
      root = f.root;
    }) a.polygons
    ∙ ap (λ z. record g {
      polygons_on = z;
      surfaces = f.surfaces;
      meshes = f.meshes;
      records = f.records;
      root = f.root;
    }) a.polygons_on
    ∙ ap (λ z. record g { surfaces = z; meshes = f.meshes; records = f.records; root = f.root }) a.surfaces
    ∙ ap (λ z. record g { meshes = z; records = f.records; root = f.root }) a.meshes
    ∙ ap (λ z. record g { records = z; root = f.root }) records
    ∙ ap (λ z. record g { root = z }) root

module _ (forms : FormsAreExact) (fields : FieldsAreExact) (names : SignsAndNamesTell) (locations : SectionsAreExact)
    (curves : CurvesAreExact) (meshes : MeshesAreExact) (surfaces : SurfacesAreExact) (tell : HeadsTell)
    (limits : Limits) (reps : ℕ) where
  abbrev most : ℕ
  most = limits.entries

  one_end : (f g : File) (ts rest other : List Token) → AreAlike f g → f.records ≡ g.records → FitsEnd f → FitsEnd g
      → Begins ts (spell_use f.root) rest → Begins ts (spell_use g.root) other → f.root ≡ g.root
  one_end f g ts rest other alike records end_f end_g begins_f begins_g =
      let first = root_again forms fields (length f.locations) (length f.records) names ts rest f.root begins_f end_f in
      let second = root_again forms fields (length g.locations) (length g.records) names ts other g.root
      begins_g end_g in
      let same : root_at (length f.locations) (length f.records) ts ≡ root_at (length g.locations)
      (length g.records) ts =
      ap (λ (l : List LocationEntry). root_at (length l) (length f.records) ts) alike.locations
      ∙ ap (λ (rs : List Record). root_at (length g.locations) (length rs) ts) records in
      ap (λ (q : FileUse × List Token). q.0) (ok_is (f.root, rest) (g.root, other) (sym first ∙ same ∙ second))

  one_from_records : (f g : File) (ts rest other : List Token) → AreAlike f g → FitRecords reps limits f
      → FitRecords reps limits g → FitsEnd f → FitsEnd g → Begins ts (spell_from_records f) rest
      → Begins ts (spell_from_records g) other → f ≡ g
  one_from_records f g ts rest other alike fit_f fit_g end_f end_g begins_f begins_g =
      let word = codes "TShapes" in
      let whole_f = fields.split ts (section word (spell_record f.version) f.records)
      (spell_use f.root) rest begins_f in
      let whole_g = fields.split ts (section word (spell_record g.version) g.records)
      (spell_use g.root) other begins_g in
      let parts_f = fields.split ts (word ∷ decimal (length f.records) ∷ [])
      (flat_map (spell_record f.version) f.records) whole_f.0 whole_f.1 in
      let parts_g = fields.split ts (word ∷ decimal (length g.records) ∷ [])
      (flat_map (spell_record g.version) g.records) whole_g.0 whole_g.1 in
      let heading_f = heading_again fields word limits.records ts parts_f.0 (length f.records) parts_f.1 fit_f.countable
      fit_f.within in
      let heading_g = heading_again fields word limits.records ts parts_g.0 (length g.records) parts_g.1 fit_g.countable
      fit_g.within in
      let pair = ok_is (length f.records, parts_f.0) (length g.records, parts_g.0) (sym heading_f ∙ heading_g) in
      let count : length f.records ≡ length g.records = ap (λ (q : ℕ × List Token). q.0) pair in
      let between : parts_f.0 ≡ parts_g.0 = ap (λ (q : ℕ × List Token). q.1) pair in
      let bounds : bounds_of g.version (sizes_of g) (length g.records) limits.uses ≡ bounds_of f.version (sizes_of f)
      (length f.records) limits.uses =
      ap (λ (v : ℕ). bounds_of v (sizes_of g) (length g.records) limits.uses) (sym alike.version)
      ∙ ap (λ (t : HeadBounds). bounds_of f.version t (length g.records) limits.uses) (sym (alike_sizes f g alike))
      ∙ ap (λ (n : ℕ). bounds_of f.version (sizes_of f) n limits.uses) (sym count) in
      let fit = subst (λ (c : RecordBounds). FitAll reps c nothing_read g.records) bounds fit_g.fit in
      let begins = subst (λ (v : ℕ). Begins parts_f.0 (flat_map (spell_record v) g.records) whole_g.0)
      (sym alike.version) (subst (λ (m : List Token). Begins m (flat_map (spell_record g.version) g.records)
      whole_g.0) (sym between) parts_g.2) in
      let records = one_list forms fields names tell (bounds_of f.version (sizes_of f) (length f.records) limits.uses)
      reps nothing_read f.records g.records parts_f.0 whole_f.0 whole_g.0 count fit_f.fit fit parts_f.2 begins in
      let end = subst (λ (m : List Token). Begins m (spell_use g.root) other) (sym records.1) whole_g.2 in
      let root = one_end f g whole_f.0 rest other alike records.0 end_f end_g whole_f.2 end in
      alike_same f g alike records.0 root

  -- what the fields of two files have in common, section by section
  pub one_file : (f g : File) (ts rest other : List Token) → f.version ≡ g.version → FitFile reps limits f
      → FitFile reps limits g → Begins ts (spell_file f) rest → Begins ts (spell_file g) other → f ≡ g
  one_file f g ts rest other version fit_f fit_g begins_f begins_g =
      let from_f = subst (λ z. Begins ts z rest) (regrouped f) begins_f in
      let from_g = subst (λ z. Begins ts z other) (regrouped g) begins_g in
      let places = one_value fields (location_section_at most) (section (codes "Locations") spell_location)
      (FitLocations most) (locations_section locations fields most)
      f.locations g.locations (spell_from_curve2s f) (spell_from_curve2s g) ts rest other fit_f.0 fit_g.0
      from_f from_g in
      let curve2s = one_value fields (section_at (codes "Curve2ds") most curve2_at)
      (section (codes "Curve2ds") spelling2) (FitsTable IsSound2 limits)
      (section_is_exact fields (codes "Curve2ds") most curve2_at spelling2 IsSound2 curves.curve2)
      f.curve2s g.curve2s (spell_from_curves f) (spell_from_curves g) places.between rest other fit_f.1.0 fit_g.1.0
      places.first places.second in
      let curve3s = one_value fields (section_at (codes "Curves") most (curve3_at 0))
      (section (codes "Curves") spelling3) (FitsTable (IsSound3 0) limits)
      (section_is_exact fields (codes "Curves") most (curve3_at 0) spelling3 (IsSound3 0)
      (curves.curve3 0 (omega arith)))
      f.curves g.curves (spell_from_polygons f) (spell_from_polygons g) curve2s.between rest other fit_f.1.1.0
      fit_g.1.1.0 curve2s.first curve2s.second in
      let polygons = one_value fields (section_at (codes "Polygon3D") most polygon_at)
      (section (codes "Polygon3D") spell_polygon) (FitsTable IsSoundPolygon limits)
      (section_is_exact fields (codes "Polygon3D") most polygon_at spell_polygon IsSoundPolygon meshes.polygon)
      f.polygons g.polygons (spell_from_polygons_on f) (spell_from_polygons_on g) curve3s.between rest other
      fit_f.1.1.1.0 fit_g.1.1.1.0 curve3s.first curve3s.second in
      let polygons_on = one_value fields (section_at (codes "PolygonOnTriangulations") most polygon_on_at)
      (section (codes "PolygonOnTriangulations") spell_polygon_on) (FitsTable IsSoundPolygonOn limits)
      (section_is_exact fields (codes "PolygonOnTriangulations") most polygon_on_at spell_polygon_on
      IsSoundPolygonOn meshes.polygon_on)
      f.polygons_on g.polygons_on (spell_from_surfaces f) (spell_from_surfaces g) polygons.between rest other
      fit_f.1.1.1.1.0 fit_g.1.1.1.1.0 polygons.first polygons.second in
      let faces = one_value fields (section_at (codes "Surfaces") most surface_at)
      (section (codes "Surfaces") spell_surface) (FitsTable IsSoundSurface limits)
      (section_is_exact fields (codes "Surfaces") most surface_at spell_surface IsSoundSurface surfaces.surface)
      f.surfaces g.surfaces (spell_from_meshes f) (spell_from_meshes g) polygons_on.between rest other fit_f.1.1.1.1.1.0
      fit_g.1.1.1.1.1.0 polygons_on.first polygons_on.second in
      let nets = one_value fields (section_at (codes "Triangulations") most mesh_at)
      (section (codes "Triangulations") spell_mesh) (FitsTable IsSoundMesh limits)
      (section_is_exact fields (codes "Triangulations") most mesh_at spell_mesh IsSoundMesh meshes.mesh)
      f.meshes g.meshes (spell_from_records f) (spell_from_records g) faces.between rest other fit_f.1.1.1.1.1.1.0
      fit_g.1.1.1.1.1.1.0 faces.first faces.second in
      let alike : AreAlike f g = record {
        version = version;
        locations = places.same;
        curve2s = curve2s.same;
        curves = curve3s.same;
        polygons = polygons.same;
        polygons_on = polygons_on.same;
        surfaces = faces.same;
        meshes = nets.same;
      } in
      let ends_f = fit_f.1.1.1.1.1.1.1 in
      let ends_g = fit_g.1.1.1.1.1.1.1 in
      one_from_records f g nets.between rest other alike ends_f.0 ends_g.0 ends_f.1 ends_g.1 nets.first nets.second
