-- The root use, any section before the records, and what is to be shown of a file, section by section.
use Rattle.std.proofs.Common.{◌≡◌, ℕ, ◌<◌, ◌≤◌, ◌^◌, ◌&&◌, nat_le, List, [], ◌∷◌, ◌++◌, length, Option, Some, None, Ok}
use Rattle.std.proofs.Common.{refl, sym, ap, subst, ◌∙◌, append_assoc, arith}
use Rattle.std.specs.Prelude.{codes}
use Rattle.std.specs.Fmt.{decimal}
use Rattle.std.proofs.lemmas.Bool.{leb-true, le-leb}
use Rattle.brep_tokens.specs.Laws.{FormsAreExact}
use Rattle.brep_tokens.specs.declared.text.Token.{Token}
use Rattle.brep_tokens.specs.declared.fault.ReadCode.TheVariants as faults
use Rattle.lists.specs.Results.{◌>>=◌}
use Rattle.entry_readers.specs.Reading.{Read, fault, at_token, ranged_at}
use Rattle.entry_readers.specs.Begins.{Begins, IsExact, FieldsAreExact}
use Rattle.lists.proofs.Results.{bind_ok, guard_ok, ok_is}
use Rattle.orientation.specs.declared.turn.Turn.{Turn}
use Rattle.orientation.specs.Laws.{SignsAndNamesTell}
use Rattle.location_table.specs.Locations.{spell_location}
use Rattle.curve_tables.specs.Sound.{IsSound2, IsSound3}
use Rattle.curve_tables.specs.Spelling.{spelling2, spelling3}
use Rattle.surface_tables.specs.Sound.{IsSoundSurface}
use Rattle.surface_tables.specs.Spelling.{spell_surface}
use Rattle.mesh_tables.specs.Sound.{IsSoundPolygon, IsSoundPolygonOn, IsSoundMesh}
use Rattle.mesh_tables.specs.Spelling.{spell_polygon, spell_polygon_on, spell_mesh}
use Rattle.tshape_data.specs.declared.head_bounds.HeadBounds.{HeadBounds}
use Rattle.expansion_laws.specs.Expansion.{IsNumberOf}
use Rattle.brep_file.specs.declared.uses.FileUse.{FileUse}
use Rattle.brep_file.specs.declared.file.File.{File}
use Rattle.brep_file.specs.Sound.{Limits, IsSoundTable, sizes_of}
use Rattle.brep_file.specs.Spelling.{section, spell_use, spell_record, spell_file}
use Rattle.brep_file.specs.RecordReading.{RecordBounds, nothing_read, use_of, root_named}
use Rattle.brep_file.specs.RecordReading.{root_located, root_at}
use Rattle.brep_file.proofs.Basics.{and_true, both}
use Rattle.brep_file.proofs.LocationLaws.{FitLocations}
use Rattle.brep_file.proofs.UseLaws.{use_text, use_takes, use_again}
use Rattle.brep_file.proofs.RecordLaws.{FitAll}

-- ---- the root use

pub record FitsRoot (locations n : ℕ) (u : FileUse) : Type 0 where
  pub named : IsNumberOf n u.number
  pub location : u.location ≤ locations
  pub small : u.number < 10 ^ 18
  pub location_small : u.location < 10 ^ 18

module _ (forms : FormsAreExact) (fields : FieldsAreExact) (locations n : ℕ) where
  named_takes : (t : Token) (o : Option (Turn × ℕ)) → use_of t.text ≡ o → (u : Turn × ℕ) → root_named n t o ≡ Ok u
      → (t.text ≡ use_text u.0 u.1) × (u.1 < 10 ^ 18) × IsNumberOf n u.1
  named_takes t None is u e = absurd cc
  named_takes t (Some s) is u e =
      let g = guard_ok (nat_le 1 s.1 && nat_le s.1 n) (fault (at_token faults.IndexOutOfRange s.1 n t)) s u e in
      let ends = and_true (nat_le 1 s.1) (nat_le s.1 n) g.0 in
      let text = use_takes forms t.text s.0 s.1 is in
      subst (λ (v : Turn × ℕ). (t.text ≡ use_text v.0 v.1) × (v.1 < 10 ^ 18) × IsNumberOf n v.1) g.1
      (text.0, text.1, (leb-true 1 s.1 ends.0, leb-true s.1 n ends.1))

  located_takes : (u : Turn × ℕ) (ts rest : List Token) (x : FileUse) → u.1 < 10 ^ 18 → IsNumberOf n u.1
      → root_located locations u ts ≡ Ok (x, rest)
      → (x.turn ≡ u.0) × (x.number ≡ u.1) × Begins ts (decimal x.location ∷ []) rest × FitsRoot locations n x
  located_takes u [] rest x small is e = absurd cc
  located_takes u (t ∷ ts) rest x small is e =
      let l = bind_ok (ranged_at 0 locations (t ∷ ts))
      (λ l. Ok (record { turn = u.0; number = u.1; location = l.0 }, ts)) (x, rest) e in
      let location = (fields.ranged 0 locations).takes (t ∷ ts) l.0.1 l.0.0 l.1 in
      both (λ (y : FileUse) r. (y.turn ≡ u.0) × (y.number ≡ u.1) × Begins (t ∷ ts) (decimal y.location ∷ []) r
      × FitsRoot locations n y) (record { turn = u.0; number = u.1; location = l.0.0 }) x ts rest (ok_is _ _ l.2) (
        refl,
        refl,
        (location.0.0, refl),
        record {
          named = is;
          location = location.1.to;
          small = small;
          location_small = location.1.small;
        },
      )

  pub root_takes : (ts rest : List Token) (x : FileUse) → root_at locations n ts ≡ Ok (x, rest)
      → Begins ts (spell_use x) rest × FitsRoot locations n x
  root_takes [] rest x e = absurd cc
  root_takes (t ∷ ts) rest x e =
      let u = bind_ok (root_named n t (use_of t.text)) (λ u. root_located locations u ts) (x, rest) e in
      let is = named_takes t (use_of t.text) refl u.0 u.1 in
      let l = located_takes u.0 ts rest x is.1 is.2 u.2 in
      ((is.0 ∙ ap (λ z. use_text z u.0.1) (sym l.0) ∙ ap (use_text x.turn) (sym l.1), l.2), l.3)

  module _ (names : SignsAndNamesTell) where
    pub root_again : (ts rest : List Token) (x : FileUse) → Begins ts (spell_use x) rest → FitsRoot locations n x
        → root_at locations n ts ≡ Ok (x, rest)
    root_again [] rest x b is = absurd b
    root_again (t ∷ []) rest x b is = absurd b.1
    root_again (t ∷ t2 ∷ ts) rest x b is =
        let location = (fields.ranged 0 locations).again (t2 ∷ ts) ts x.location (b.1.0, refl)
        (record { small = is.location_small; from = omega arith; to = is.location }) in
        rw (
          b.0,
          use_again forms names x.turn x.number is.small,
          le-leb 1 x.number is.named.0,
          le-leb x.number n is.named.1,
          location,
          b.1.1,
        ) refl

-- ---- what is to be shown of a file, section by section

abbrev pub FitsTable : {A : Type 0} → (A → Type 0) → Limits → List A → Type 0
FitsTable Fits limits xs = IsSoundTable Fits xs × (length xs ≤ limits.entries)

-- of which version a file is, how many entries each table has, how many records there are, and how many uses they may
-- have
abbrev pub bounds_of : ℕ → HeadBounds → ℕ → ℕ → RecordBounds
bounds_of version tables n uses = record { tables = tables; version = version; records = n; uses = uses }

pub record FitRecords (reps : ℕ) (limits : Limits) (f : File) : Type 0 where
  pub countable : length f.records < 10 ^ 18
  pub within : length f.records ≤ limits.records
  pub fit : FitAll reps (bounds_of f.version (sizes_of f) (length f.records) limits.uses) nothing_read f.records

abbrev pub FitsEnd : File → Type 0
FitsEnd f = FitsRoot (length f.locations) (length f.records) f.root

-- a file read from a section on has the earlier sections of the file so far
abbrev pub KeepsRoot : File → File → Type 0
KeepsRoot f g = g ≡ record f { root = g.root }

abbrev pub KeepsRecords : File → File → Type 0
KeepsRecords f g = KeepsRoot (record f { records = g.records }) g

abbrev pub KeepsMeshes : File → File → Type 0
KeepsMeshes f g = KeepsRecords (record f { meshes = g.meshes }) g

abbrev pub KeepsSurfaces : File → File → Type 0
KeepsSurfaces f g = KeepsMeshes (record f { surfaces = g.surfaces }) g

abbrev pub KeepsPolygonsOn : File → File → Type 0
KeepsPolygonsOn f g = KeepsSurfaces (record f { polygons_on = g.polygons_on }) g

abbrev pub KeepsPolygons : File → File → Type 0
KeepsPolygons f g = KeepsPolygonsOn (record f { polygons = g.polygons }) g

abbrev pub KeepsCurves : File → File → Type 0
KeepsCurves f g = KeepsPolygons (record f { curves = g.curves }) g

abbrev pub KeepsCurve2s : File → File → Type 0
KeepsCurve2s f g = KeepsCurves (record f { curve2s = g.curve2s }) g

abbrev pub KeepsLocations : File → File → Type 0
KeepsLocations f g = KeepsCurve2s (record f { locations = g.locations }) g

abbrev pub spell_from_records : File → List (List ℕ)
spell_from_records f = section (codes "TShapes") (spell_record f.version) f.records ++ spell_use f.root

-- ---- any section before the records

module _ (fields : FieldsAreExact) {A : Type 0} (read : List Token → Read (List A)) (spell : List A → List (List ℕ))
    (P : List A → Type 0) (exact : IsExact read spell P)
    (put : File → List A → File) (get : File → List A) (next : File → List Token → Read File) (tail : File
    → List (List ℕ)) (Fits : File → Type 0) (Keeps : File → File → Type 0) where
  pub table_takes : ((f : File) (ts rest : List Token) (g : File) → next f ts ≡ Ok (g, rest)
      → Begins ts (tail g) rest × Fits g × Keeps f g)
      → ((f : File) (xs : List A) (g : File) → Keeps (put f xs) g → get g ≡ xs)
      → (f : File) (ts rest : List Token) (g : File) → (read ts >>= λ x. next (put f x.0) x.1) ≡ Ok (g, rest)
      → Begins ts (spell (get g) ++ tail g) rest × (P (get g) × Fits g) × Keeps (put f (get g)) g
  table_takes later kept f ts rest g e =
      let s = bind_ok (read ts) (λ x. next (put f x.0) x.1) (g, rest) e in
      let one = exact.takes ts s.0.1 s.0.0 s.1 in
      let others = later (put f s.0.0) s.0.1 rest g s.2 in
      let same : s.0.0 ≡ get g = sym (kept f s.0.0 g others.2) in
      subst (λ (xs : List A). Begins ts (spell xs ++ tail g) rest × (P xs × Fits g) × Keeps (put f xs) g) same
      (fields.joined ts (spell s.0.0) s.0.1 (tail g) rest one.0 others.0, (one.1, others.1), others.2)

  pub table_again : ((f : File) (ts rest : List Token) (g : File) → Begins ts (tail g) rest → Fits g → Keeps f g
      → next f ts ≡ Ok (g, rest))
      → (f : File) (ts rest : List Token) (g : File) → Begins ts (spell (get g) ++ tail g) rest → P (get g) × Fits g
      → Keeps (put f (get g)) g → (read ts >>= λ x. next (put f x.0) x.1) ≡ Ok (g, rest)
  table_again later f ts rest g b fits keeps =
      let s = fields.split ts (spell (get g)) (tail g) rest b in
      rw (exact.again ts s.0 (get g) s.1 fits.0) (later (put f (get g)) s.0 rest g s.2 fits.1 keeps)

-- ---- what is spelled, and what is to be shown, from each section on

abbrev pub spell_from_meshes : File → List (List ℕ)
spell_from_meshes f = section (codes "Triangulations") spell_mesh f.meshes ++ spell_from_records f

abbrev pub spell_from_surfaces : File → List (List ℕ)
spell_from_surfaces f = section (codes "Surfaces") spell_surface f.surfaces ++ spell_from_meshes f

abbrev pub spell_from_polygons_on : File → List (List ℕ)
spell_from_polygons_on f = section (codes "PolygonOnTriangulations") spell_polygon_on f.polygons_on
    ++ spell_from_surfaces f

abbrev pub spell_from_polygons : File → List (List ℕ)
spell_from_polygons f = section (codes "Polygon3D") spell_polygon f.polygons ++ spell_from_polygons_on f

abbrev pub spell_from_curves : File → List (List ℕ)
spell_from_curves f = section (codes "Curves") spelling3 f.curves ++ spell_from_polygons f

abbrev pub spell_from_curve2s : File → List (List ℕ)
spell_from_curve2s f = section (codes "Curve2ds") spelling2 f.curve2s ++ spell_from_curves f

abbrev pub spell_from_locations : File → List (List ℕ)
spell_from_locations f = section (codes "Locations") spell_location f.locations ++ spell_from_curve2s f

pub regrouped : (f : File) → spell_file f ≡ spell_from_locations f
regrouped f =
    append_assoc (section (codes "Locations") spell_location f.locations) _ (spell_from_records f)
    ∙ ap (λ z. section (codes "Locations") spell_location f.locations ++ z)
    (append_assoc (section (codes "Curve2ds") spelling2 f.curve2s) _ (spell_from_records f)
    ∙ ap (λ z. section (codes "Curve2ds") spelling2 f.curve2s ++ z)
    (append_assoc (section (codes "Curves") spelling3 f.curves) _ (spell_from_records f)
    ∙ ap (λ z. section (codes "Curves") spelling3 f.curves ++ z)
    (append_assoc (section (codes "Polygon3D") spell_polygon f.polygons) _ (spell_from_records f)
    ∙ ap (λ z. section (codes "Polygon3D") spell_polygon f.polygons ++ z)
    (append_assoc (section (codes "PolygonOnTriangulations") spell_polygon_on f.polygons_on) _
    (spell_from_records f)
    ∙ ap (λ z. section (codes "PolygonOnTriangulations") spell_polygon_on f.polygons_on ++ z)
    (append_assoc (section (codes "Surfaces") spell_surface f.surfaces)
    (section (codes "Triangulations") spell_mesh f.meshes) (spell_from_records f))))))

abbrev pub FitMeshes : ℕ → Limits → File → Type 0
FitMeshes reps limits f = FitsTable IsSoundMesh limits f.meshes × (FitRecords reps limits f × FitsEnd f)

abbrev pub FitSurfaces : ℕ → Limits → File → Type 0
FitSurfaces reps limits f = FitsTable IsSoundSurface limits f.surfaces × FitMeshes reps limits f

abbrev pub FitPolygonsOn : ℕ → Limits → File → Type 0
FitPolygonsOn reps limits f = FitsTable IsSoundPolygonOn limits f.polygons_on × FitSurfaces reps limits f

abbrev pub FitPolygons : ℕ → Limits → File → Type 0
FitPolygons reps limits f = FitsTable IsSoundPolygon limits f.polygons × FitPolygonsOn reps limits f

abbrev pub FitCurves : ℕ → Limits → File → Type 0
FitCurves reps limits f = FitsTable (IsSound3 0) limits f.curves × FitPolygons reps limits f

abbrev pub FitCurve2s : ℕ → Limits → File → Type 0
FitCurve2s reps limits f = FitsTable IsSound2 limits f.curve2s × FitCurves reps limits f

abbrev pub FitFile : ℕ → Limits → File → Type 0
FitFile reps limits f = FitLocations limits.entries f.locations × FitCurve2s reps limits f
