-- A file's tokens are read exactly as they are spelled.
use Rattle.std.proofs.Common.{◌≡◌, ℕ, ◌<◌, ◌≤◌, ◌^◌, List, [], ◌∷◌, ◌++◌, length, Ok}
use Rattle.std.proofs.Common.{refl, sym, ap, subst, ◌∙◌, arith}
use Rattle.std.specs.Prelude.{codes}
use Rattle.std.specs.List.{flat_map}
use Rattle.std.specs.Fmt.{decimal}
use Rattle.brep_tokens.specs.Laws.{FormsAreExact}
use Rattle.brep_tokens.specs.declared.text.Token.{Token}
use Rattle.lists.specs.Results.{◌>>=◌}
use Rattle.entry_readers.specs.Reading.{Read}
use Rattle.entry_readers.specs.Begins.{Begins, FieldsAreExact}
use Rattle.lists.proofs.Results.{bind_ok, ok_is}
use Rattle.orientation.specs.Laws.{SignsAndNamesTell}
use Rattle.location_table.specs.Sections.{SectionsAreExact}
use Rattle.location_table.specs.Locations.{spell_location}
use Rattle.curve_tables.specs.Curves.{curve2_at, curve3_at}
use Rattle.curve_tables.specs.Laws.{CurvesAreExact}
use Rattle.curve_tables.specs.Sound.{IsSound2, IsSound3}
use Rattle.curve_tables.specs.Spelling.{spelling2, spelling3}
use Rattle.surface_tables.specs.Laws.{SurfacesAreExact}
use Rattle.surface_tables.specs.Surfaces.{surface_at}
use Rattle.surface_tables.specs.Sound.{IsSoundSurface}
use Rattle.surface_tables.specs.Spelling.{spell_surface}
use Rattle.mesh_tables.specs.Laws.{MeshesAreExact}
use Rattle.mesh_tables.specs.Meshes.{polygon_at, polygon_on_at, mesh_at}
use Rattle.mesh_tables.specs.Sound.{IsSoundPolygon, IsSoundPolygonOn, IsSoundMesh}
use Rattle.mesh_tables.specs.Spelling.{spell_polygon, spell_polygon_on, spell_mesh}
use Rattle.tshape_data.specs.Laws.{HeadsAreExact}
use Rattle.tshape_data.specs.RepReading.{most_reps}
use Rattle.tshape_data.specs.declared.head_bounds.HeadBounds.{HeadBounds}
use Rattle.brep_file.specs.declared.file.File.{File}
use Rattle.brep_file.specs.Sound.{Limits, sizes_of}
use Rattle.brep_file.specs.Spelling.{section, spell_use, spell_record, spell_file}
use Rattle.brep_file.specs.SectionReading.{heading_at, section_at, location_section_at}
use Rattle.brep_file.specs.FileReading.{begun, from_root, from_records, from_meshes, from_surfaces, from_polygons_on}
use Rattle.brep_file.specs.FileReading.{from_polygons, from_curves, from_curve2s, from_locations}
use Rattle.brep_file.specs.RecordReading.{RecordBounds, SoFar, nothing_read, records_from}
use Rattle.brep_file.specs.RecordReading.{root_at}
use Rattle.brep_file.proofs.Basics.{both}
use Rattle.brep_file.proofs.LocationLaws.{FitLocations, locations_section}
use Rattle.brep_file.proofs.SectionLaws.{heading_takes, heading_again, section_is_exact}
use Rattle.brep_file.proofs.RecordLaws.{FitAll, after_all-records, records_takes, records_again}
use Rattle.brep_file.proofs.FileParts.{FitsRoot, root_again, root_takes, FitsTable, bounds_of, FitRecords}
use Rattle.brep_file.proofs.FileParts.{FitsEnd, KeepsRoot, KeepsRecords, KeepsMeshes, KeepsSurfaces, KeepsPolygonsOn}
use Rattle.brep_file.proofs.FileParts.{KeepsPolygons, KeepsCurves, KeepsCurve2s, KeepsLocations, spell_from_records}
use Rattle.brep_file.proofs.FileParts.{table_takes, table_again, spell_from_meshes, spell_from_surfaces}
use Rattle.brep_file.proofs.FileParts.{spell_from_polygons_on, spell_from_polygons, spell_from_curves}
use Rattle.brep_file.proofs.FileParts.{spell_from_curve2s, spell_from_locations, regrouped, FitMeshes, FitSurfaces}
use Rattle.brep_file.proofs.FileParts.{FitPolygonsOn, FitPolygons, FitCurves, FitCurve2s, FitFile}

-- ---- the sections of a file

abbrev ok_file : File → List Token → Read File
ok_file f rest = Ok (f, rest)

module _ (forms : FormsAreExact) (fields : FieldsAreExact) (names : SignsAndNamesTell) (locations : SectionsAreExact)
    (curves : CurvesAreExact) (meshes : MeshesAreExact) (surfaces : SurfacesAreExact) (heads : HeadsAreExact)
    (limits : Limits) where
  abbrev most : ℕ
  most = limits.entries

  -- the root use

  end_takes : (f : File) (ts rest : List Token) (g : File) → from_root f ts ≡ Ok (g, rest)
      → Begins ts (spell_use g.root) rest × FitsEnd g × KeepsRoot f g
  unfolding from_root
  end_takes f ts rest g e =
      let u = bind_ok (root_at (length f.locations) (length f.records) ts)
      (λ x. Ok (record f { root = x.0 }, x.1)) (g, rest) e in
      let is = root_takes forms fields (length f.locations) (length f.records) ts u.0.1 u.0.0 u.1 in
      both (λ (h : File) r. Begins ts (spell_use h.root) r × FitsEnd h × KeepsRoot f h) (record f { root = u.0.0 }) g
      u.0.1 rest (ok_is _ _ u.2) (is.0, is.1, refl)

  end_again : (f : File) (ts rest : List Token) (g : File) → Begins ts (spell_use g.root) rest → FitsEnd g
      → KeepsRoot f g → from_root f ts ≡ Ok (g, rest)
  unfolding from_root
  end_again f ts rest g b fits keeps =
      let fits_here : FitsRoot (length f.locations) (length f.records) g.root =
      subst (λ (n : ℕ). FitsRoot n (length f.records) g.root) (ap (λ (h : File). length h.locations) keeps)
      (subst (λ (n : ℕ). FitsRoot (length g.locations) n g.root)
      (ap (λ (h : File). length h.records) keeps) fits) in
      rw (root_again forms fields (length f.locations) (length f.records) names ts rest g.root b fits_here)
      (ap (λ (h : File). ok_file h rest) (sym keeps))

  -- the records

  records_from_takes : (f : File) (ts rest : List Token) (g : File) → from_records limits f ts ≡ Ok (g, rest)
      → Begins ts (spell_from_records g) rest × (FitRecords most_reps limits g × FitsEnd g) × KeepsRecords f g
  unfolding from_records
  records_from_takes f ts rest g e =
      let h = bind_ok (heading_at (codes "TShapes") limits.records ts)
      (λ n. records_from (bounds_of f.version (sizes_of f) n.0 limits.uses) nothing_read n.0 n.1
      >>= λ x. from_root (record f { records = x.0.records }) x.1) (g, rest) e in
      let b : RecordBounds = bounds_of f.version (sizes_of f) h.0.0 limits.uses in
      let r = bind_ok (records_from b nothing_read h.0.0 h.0.1)
      (λ x. from_root (record f { records = x.0.records }) x.1) (g, rest) h.2 in
      let head = heading_takes fields (codes "TShapes") limits.records ts h.0.1 h.0.0 h.1 in
      let read = records_takes forms fields names heads b h.0.0 nothing_read h.0.1 r.0.1 r.0.0 (omega arith)
      (omega arith) r.1 in
      let end = end_takes (record f { records = r.0.0.records }) r.0.1 rest g r.2 in
      let all : r.0.0.records ≡ read.all = ap (λ (s : SoFar). s.records) read.result
      ∙ after_all-records h.0.0 nothing_read read.all in
      let kept : g.records ≡ r.0.0.records = ap (λ (h : File). h.records) end.2 in
      let same : read.all ≡ g.records = sym (kept ∙ all) in
      let count : h.0.0 ≡ length g.records = sym read.many ∙ ap length same in
      let tables : sizes_of f ≡ sizes_of g = sym (ap sizes_of end.2) in
      let version : f.version ≡ g.version = sym (ap (λ (h : File). h.version) end.2) in
      let bounds : b ≡ bounds_of g.version (sizes_of g) (length g.records) limits.uses =
      ap (λ (v : ℕ). bounds_of v (sizes_of f) h.0.0 limits.uses) version
      ∙ ap (λ (t : HeadBounds). bounds_of g.version t h.0.0 limits.uses) tables
      ∙ ap (λ (n : ℕ). bounds_of g.version (sizes_of g) n limits.uses) count in
      let heading : Begins ts (codes "TShapes" ∷ decimal (length g.records) ∷ []) h.0.1 =
      subst (λ (n : ℕ). Begins ts (codes "TShapes" ∷ decimal n ∷ []) h.0.1) count head.0 in
      let of_version : Begins h.0.1 (flat_map (spell_record f.version) g.records) r.0.1 =
      subst (λ rs. Begins h.0.1 (flat_map (spell_record f.version) rs) r.0.1) same read.spelled in
      let spelled : Begins h.0.1 (flat_map (spell_record g.version) g.records) r.0.1 =
      subst (λ (v : ℕ). Begins h.0.1 (flat_map (spell_record v) g.records) r.0.1) version of_version in
      let fit : FitAll most_reps b nothing_read g.records =
      subst (λ rs. FitAll most_reps b nothing_read rs) same read.fit in (
        fields.joined ts (section (codes "TShapes") (spell_record g.version) g.records) r.0.1 (spell_use g.root) rest
            (fields.joined ts (codes "TShapes" ∷ decimal (length g.records) ∷ []) h.0.1
            (flat_map (spell_record g.version) g.records) r.0.1 heading spelled) end.0,
        (
          record {
            countable = subst (λ (n : ℕ). n < 10 ^ 18) count head.1;
            within = subst (λ (n : ℕ). n ≤ limits.records) count head.2;
            fit = subst (λ (c : RecordBounds). FitAll most_reps c nothing_read g.records) bounds fit;
          },
          end.1,
        ),
        subst (λ rs. KeepsRoot (record f { records = rs }) g) (sym kept) end.2,
      )

  records_from_again : (f : File) (ts rest : List Token) (g : File) → Begins ts (spell_from_records g) rest
      → FitRecords most_reps limits g × FitsEnd g → KeepsRecords f g → from_records limits f ts ≡ Ok (g, rest)
  unfolding from_records
  records_from_again f ts rest g b fits keeps =
      let tables : sizes_of g ≡ sizes_of f = ap sizes_of keeps in
      let version : g.version ≡ f.version = ap (λ (h : File). h.version) keeps in
      let of_version : Begins ts (section (codes "TShapes") (spell_record f.version) g.records ++ spell_use g.root)
      rest = subst (λ (v : ℕ). Begins ts (section (codes "TShapes") (spell_record v) g.records ++ spell_use g.root)
      rest) version b in
      let whole = fields.split ts (section (codes "TShapes") (spell_record f.version) g.records)
      (spell_use g.root) rest of_version in
      let parts = fields.split ts (codes "TShapes" ∷ decimal (length g.records) ∷ [])
      (flat_map (spell_record f.version) g.records) whole.0 whole.1 in
      let fit_tables : FitAll most_reps (bounds_of g.version (sizes_of f) (length g.records) limits.uses) nothing_read
      g.records = subst (λ (t : HeadBounds). FitAll most_reps (bounds_of g.version t (length g.records) limits.uses)
      nothing_read g.records) tables fits.0.fit in
      let fit : FitAll most_reps (bounds_of f.version (sizes_of f) (length g.records) limits.uses) nothing_read
      g.records = subst (λ (v : ℕ). FitAll most_reps (bounds_of v (sizes_of f) (length g.records) limits.uses)
      nothing_read g.records) version fit_tables in
      rw (
        heading_again fields (codes "TShapes") limits.records ts parts.0 (length g.records) parts.1
            fits.0.countable fits.0.within,
        records_again forms fields names heads (bounds_of f.version (sizes_of f) (length g.records) limits.uses)
            g.records nothing_read parts.0 whole.0 parts.2 fit,
        after_all-records (length g.records) nothing_read g.records,
      ) (end_again (record f { records = g.records }) whole.0 rest g whole.2 fits.1 keeps)

  -- the tables, from the last to the first

  meshes_takes : (f : File) (ts rest : List Token) (g : File) → from_meshes limits f ts ≡ Ok (g, rest)
      → Begins ts (spell_from_meshes g) rest × FitMeshes most_reps limits g × KeepsMeshes f g
  unfolding from_meshes
  meshes_takes f ts rest g e = table_takes fields (section_at (codes "Triangulations") most mesh_at)
      (section (codes "Triangulations") spell_mesh) (FitsTable IsSoundMesh limits)
      (section_is_exact fields (codes "Triangulations") most mesh_at spell_mesh IsSoundMesh meshes.mesh)
      (λ f xs. record f { meshes = xs }) (λ f. f.meshes) (from_records limits) spell_from_records
      (λ g. FitRecords most_reps limits g × FitsEnd g) KeepsRecords records_from_takes
      (λ f xs g keeps. ap (λ (h : File). h.meshes) keeps) f ts rest g e

  meshes_again : (f : File) (ts rest : List Token) (g : File) → Begins ts (spell_from_meshes g) rest
      → FitMeshes most_reps limits g → KeepsMeshes f g → from_meshes limits f ts ≡ Ok (g, rest)
  unfolding from_meshes
  meshes_again f ts rest g b fits keeps = table_again fields (section_at (codes "Triangulations") most mesh_at)
      (section (codes "Triangulations") spell_mesh) (FitsTable IsSoundMesh limits)
      (section_is_exact fields (codes "Triangulations") most mesh_at spell_mesh IsSoundMesh meshes.mesh)
      (λ f xs. record f { meshes = xs }) (λ f. f.meshes) (from_records limits) spell_from_records
      (λ g. FitRecords most_reps limits g × FitsEnd g) KeepsRecords records_from_again f ts rest g b fits keeps

  surfaces_takes : (f : File) (ts rest : List Token) (g : File) → from_surfaces limits f ts ≡ Ok (g, rest)
      → Begins ts (spell_from_surfaces g) rest × FitSurfaces most_reps limits g × KeepsSurfaces f g
  unfolding from_surfaces
  surfaces_takes f ts rest g e = table_takes fields (section_at (codes "Surfaces") most surface_at)
      (section (codes "Surfaces") spell_surface) (FitsTable IsSoundSurface limits)
      (section_is_exact fields (codes "Surfaces") most surface_at spell_surface IsSoundSurface surfaces.surface)
      (λ f xs. record f { surfaces = xs }) (λ f. f.surfaces) (from_meshes limits) spell_from_meshes
      (FitMeshes most_reps limits) KeepsMeshes meshes_takes
      (λ f xs g keeps. ap (λ (h : File). h.surfaces) keeps) f ts rest g e

  surfaces_again : (f : File) (ts rest : List Token) (g : File) → Begins ts (spell_from_surfaces g) rest
      → FitSurfaces most_reps limits g → KeepsSurfaces f g → from_surfaces limits f ts ≡ Ok (g, rest)
  unfolding from_surfaces
  surfaces_again f ts rest g b fits keeps = table_again fields (section_at (codes "Surfaces") most surface_at)
      (section (codes "Surfaces") spell_surface) (FitsTable IsSoundSurface limits)
      (section_is_exact fields (codes "Surfaces") most surface_at spell_surface IsSoundSurface surfaces.surface)
      (λ f xs. record f { surfaces = xs }) (λ f. f.surfaces) (from_meshes limits) spell_from_meshes
      (FitMeshes most_reps limits) KeepsMeshes meshes_again f ts rest g b fits keeps

  polygons_on_takes : (f : File) (ts rest : List Token) (g : File) → from_polygons_on limits f ts ≡ Ok (g, rest)
      → Begins ts (spell_from_polygons_on g) rest × FitPolygonsOn most_reps limits g × KeepsPolygonsOn f g
  unfolding from_polygons_on
  polygons_on_takes f ts rest g e = table_takes fields (section_at (codes "PolygonOnTriangulations") most polygon_on_at)
      (section (codes "PolygonOnTriangulations") spell_polygon_on) (FitsTable IsSoundPolygonOn limits)
      (section_is_exact fields (codes "PolygonOnTriangulations") most polygon_on_at spell_polygon_on IsSoundPolygonOn
      meshes.polygon_on) (λ f xs. record f { polygons_on = xs }) (λ f. f.polygons_on) (from_surfaces limits)
      spell_from_surfaces (FitSurfaces most_reps limits) KeepsSurfaces surfaces_takes
      (λ f xs g keeps. ap (λ (h : File). h.polygons_on) keeps) f ts rest g e

  polygons_on_again : (f : File) (ts rest : List Token) (g : File) → Begins ts (spell_from_polygons_on g) rest
      → FitPolygonsOn most_reps limits g → KeepsPolygonsOn f g → from_polygons_on limits f ts ≡ Ok (g, rest)
  unfolding from_polygons_on
  polygons_on_again f ts rest g b fits keeps =
      table_again fields (section_at (codes "PolygonOnTriangulations") most polygon_on_at)
      (section (codes "PolygonOnTriangulations") spell_polygon_on) (FitsTable IsSoundPolygonOn limits)
      (section_is_exact fields (codes "PolygonOnTriangulations") most polygon_on_at spell_polygon_on IsSoundPolygonOn
      meshes.polygon_on) (λ f xs. record f { polygons_on = xs }) (λ f. f.polygons_on) (from_surfaces limits)
      spell_from_surfaces (FitSurfaces most_reps limits) KeepsSurfaces surfaces_again f ts rest g b fits keeps

  polygons_takes : (f : File) (ts rest : List Token) (g : File) → from_polygons limits f ts ≡ Ok (g, rest)
      → Begins ts (spell_from_polygons g) rest × FitPolygons most_reps limits g × KeepsPolygons f g
  unfolding from_polygons
  polygons_takes f ts rest g e = table_takes fields (section_at (codes "Polygon3D") most polygon_at)
      (section (codes "Polygon3D") spell_polygon) (FitsTable IsSoundPolygon limits)
      (section_is_exact fields (codes "Polygon3D") most polygon_at spell_polygon IsSoundPolygon meshes.polygon)
      (λ f xs. record f { polygons = xs }) (λ f. f.polygons) (from_polygons_on limits) spell_from_polygons_on
      (FitPolygonsOn most_reps limits) KeepsPolygonsOn polygons_on_takes
      (λ f xs g keeps. ap (λ (h : File). h.polygons) keeps) f ts rest g e

  polygons_again : (f : File) (ts rest : List Token) (g : File) → Begins ts (spell_from_polygons g) rest
      → FitPolygons most_reps limits g → KeepsPolygons f g → from_polygons limits f ts ≡ Ok (g, rest)
  unfolding from_polygons
  polygons_again f ts rest g b fits keeps = table_again fields (section_at (codes "Polygon3D") most polygon_at)
      (section (codes "Polygon3D") spell_polygon) (FitsTable IsSoundPolygon limits)
      (section_is_exact fields (codes "Polygon3D") most polygon_at spell_polygon IsSoundPolygon meshes.polygon)
      (λ f xs. record f { polygons = xs }) (λ f. f.polygons) (from_polygons_on limits) spell_from_polygons_on
      (FitPolygonsOn most_reps limits) KeepsPolygonsOn polygons_on_again f ts rest g b fits keeps

  curves_takes : (f : File) (ts rest : List Token) (g : File) → from_curves limits f ts ≡ Ok (g, rest)
      → Begins ts (spell_from_curves g) rest × FitCurves most_reps limits g × KeepsCurves f g
  unfolding from_curves
  curves_takes f ts rest g e = table_takes fields (section_at (codes "Curves") most (curve3_at 0))
      (section (codes "Curves") spelling3) (FitsTable (IsSound3 0) limits)
      (section_is_exact fields (codes "Curves") most (curve3_at 0) spelling3 (IsSound3 0)
      (curves.curve3 0 (omega arith))) (λ f xs. record f { curves = xs }) (λ f. f.curves) (from_polygons limits)
      spell_from_polygons (FitPolygons most_reps limits) KeepsPolygons polygons_takes
      (λ f xs g keeps. ap (λ (h : File). h.curves) keeps) f ts rest g e

  curves_again : (f : File) (ts rest : List Token) (g : File) → Begins ts (spell_from_curves g) rest
      → FitCurves most_reps limits g → KeepsCurves f g → from_curves limits f ts ≡ Ok (g, rest)
  unfolding from_curves
  curves_again f ts rest g b fits keeps = table_again fields (section_at (codes "Curves") most (curve3_at 0))
      (section (codes "Curves") spelling3) (FitsTable (IsSound3 0) limits)
      (section_is_exact fields (codes "Curves") most (curve3_at 0) spelling3 (IsSound3 0)
      (curves.curve3 0 (omega arith))) (λ f xs. record f { curves = xs }) (λ f. f.curves) (from_polygons limits)
      spell_from_polygons (FitPolygons most_reps limits) KeepsPolygons polygons_again f ts rest g b fits keeps

  curve2s_takes : (f : File) (ts rest : List Token) (g : File) → from_curve2s limits f ts ≡ Ok (g, rest)
      → Begins ts (spell_from_curve2s g) rest × FitCurve2s most_reps limits g × KeepsCurve2s f g
  unfolding from_curve2s
  curve2s_takes f ts rest g e = table_takes fields (section_at (codes "Curve2ds") most curve2_at)
      (section (codes "Curve2ds") spelling2) (FitsTable IsSound2 limits)
      (section_is_exact fields (codes "Curve2ds") most curve2_at spelling2 IsSound2 curves.curve2)
      (λ f xs. record f { curve2s = xs }) (λ f. f.curve2s) (from_curves limits) spell_from_curves
      (FitCurves most_reps limits) KeepsCurves curves_takes
      (λ f xs g keeps. ap (λ (h : File). h.curve2s) keeps) f ts rest g e

  curve2s_again : (f : File) (ts rest : List Token) (g : File) → Begins ts (spell_from_curve2s g) rest
      → FitCurve2s most_reps limits g → KeepsCurve2s f g → from_curve2s limits f ts ≡ Ok (g, rest)
  unfolding from_curve2s
  curve2s_again f ts rest g b fits keeps = table_again fields (section_at (codes "Curve2ds") most curve2_at)
      (section (codes "Curve2ds") spelling2) (FitsTable IsSound2 limits)
      (section_is_exact fields (codes "Curve2ds") most curve2_at spelling2 IsSound2 curves.curve2)
      (λ f xs. record f { curve2s = xs }) (λ f. f.curve2s) (from_curves limits) spell_from_curves
      (FitCurves most_reps limits) KeepsCurves curves_again f ts rest g b fits keeps

  locations_takes : (f : File) (ts rest : List Token) (g : File) → from_locations limits f ts ≡ Ok (g, rest)
      → Begins ts (spell_from_locations g) rest × FitFile most_reps limits g × KeepsLocations f g
  unfolding from_locations
  locations_takes f ts rest g e =
      table_takes fields (location_section_at most) (section (codes "Locations") spell_location) (FitLocations most)
      (locations_section locations fields most) (λ f xs. record f { locations = xs }) (λ f. f.locations)
      (from_curve2s limits) spell_from_curve2s (FitCurve2s most_reps limits) KeepsCurve2s curve2s_takes
      (λ f xs g keeps. ap (λ (h : File). h.locations) keeps) f ts rest g e

  locations_again : (f : File) (ts rest : List Token) (g : File) → Begins ts (spell_from_locations g) rest
      → FitFile most_reps limits g → KeepsLocations f g → from_locations limits f ts ≡ Ok (g, rest)
  unfolding from_locations
  locations_again f ts rest g b fits keeps =
      table_again fields (location_section_at most) (section (codes "Locations") spell_location) (FitLocations most)
      (locations_section locations fields most) (λ f xs. record f { locations = xs }) (λ f. f.locations)
      (from_curve2s limits) spell_from_curve2s (FitCurve2s most_reps limits) KeepsCurve2s curve2s_again f ts
      rest g b fits keeps

  -- ---- the whole

  pub file_takes : (v : ℕ) (ts rest : List Token) (f : File) → from_locations limits (begun v) ts ≡ Ok (f, rest)
      → Begins ts (spell_file f) rest × FitFile most_reps limits f × (f.version ≡ v)
  file_takes v ts rest f e =
      let t = locations_takes (begun v) ts rest f e in
      (subst (λ z. Begins ts z rest) (sym (regrouped f)) t.0, t.1, ap (λ (h : File). h.version) t.2)

  pub file_again : (ts rest : List Token) (f : File) → Begins ts (spell_file f) rest → FitFile most_reps limits f
      → from_locations limits (begun f.version) ts ≡ Ok (f, rest)
  file_again ts rest f b fits =
      locations_again (begun f.version) ts rest f (subst (λ z. Begins ts z rest) (regrouped f) b) fits refl
