-- A sound file's layout: its words, split into tokens, are the file's spelling.
use Rattle.std.proofs.Common.{◌≡◌, ◌-◌, refl, sym, subst, ◌∙◌, ap, arith, inl, inr, get_or}
use Rattle.std.specs.Prelude.{ℕ, true, List, [], ◌∷◌, ◌++◌, length, map, codes, slice_get}
use Rattle.std.specs.List.{AllByRecursion, flat_map}
use Rattle.std.specs.Fmt.{decimal}
use Rattle.std.proofs.lemmas.List.{append-nil}
use Rattle.std.proofs.lemmas.List.Concat.{flat_map-append}
use Rattle.std.proofs.lemmas.List.Elements.{recursion_from_All}
use Rattle.std.proofs.lemmas.Option.{slice_get-get_or}
use Rattle.orientation.specs.declared.turn.Turn.{Turn}
use Rattle.orientation.specs.declared.turn.Turn.TheVariants.{Forward, Reversed, Internal, External}
use Rattle.orientation.specs.Turns.{sign_of}
use Rattle.brep_tokens.specs.Bytes.{is_sign}
use Rattle.brep_tokens.specs.Written.{IsDarkWord, IsPlain, WrittenIsRead, split_word}
use Rattle.entry_readers.specs.Begins.{IsDecimal}
use Rattle.location_table.specs.Laws.{LocationsAreExact}
use Rattle.curve_tables.specs.Laws.{CurvesAreExact}
use Rattle.surface_tables.specs.Laws.{SurfacesAreExact}
use Rattle.mesh_tables.specs.Laws.{IsDecimalOrP, MeshesAreExact}
use Rattle.location_table.specs.declared.entry.LocationEntry.{LocationEntry}
use Rattle.location_table.specs.Locations.{AreSoundAfter, IsSoundLocation, spell_location}
use Rattle.curve_tables.specs.declared.curve2.Curve2.{Curve2}
use Rattle.curve_tables.specs.declared.curve3.Curve3.{Curve3}
use Rattle.curve_tables.specs.Sound.{IsSound2, IsSound3}
use Rattle.curve_tables.specs.Spelling.{spelling2, spelling3}
use Rattle.mesh_tables.specs.declared.entries.Mesh.{Mesh}
use Rattle.mesh_tables.specs.declared.entries.Polygon3.{Polygon3}
use Rattle.mesh_tables.specs.declared.entries.PolygonOnMesh.{PolygonOnMesh}
use Rattle.mesh_tables.specs.Sound.{IsSoundMesh, IsSoundPolygon, IsSoundPolygonOn}
use Rattle.mesh_tables.specs.Spelling.{spell_mesh, spell_polygon, spell_polygon_on}
use Rattle.surface_tables.specs.declared.surface.Surface.{Surface}
use Rattle.surface_tables.specs.Sound.{IsSoundSurface}
use Rattle.surface_tables.specs.Spelling.{spell_surface}
use Rattle.brep_file.specs.declared.uses.FileUse.{FileUse}
use Rattle.brep_file.specs.declared.records.Record.{Record}
use Rattle.brep_file.specs.declared.file.File.{File}
use Rattle.tshape_data.specs.Laws.{LinesAreExact}
use Rattle.tshape_data.specs.Lines.{head_lines}
use Rattle.tshape_data.specs.Sound.{IsSoundHead}
use Rattle.tshape_data.specs.Spelling.{spell_head}
use Rattle.brep_file.specs.Spelling.{spell_use, spell_record, spell_tables, section}
use Rattle.brep_file.specs.Sound.{AreSoundTables, IsSound, sizes_of}
use Rattle.brep_file.specs.Reads.{Spells}
use Rattle.written_layout.specs.Layout.{Line, heading, record_lines, section_lines, location_lines}
use Rattle.written_layout.specs.Layout.{table_lines, shape_lines, file_lines, layout}
use Rattle.written_layout.specs.Laws.{LayoutsSpell}

-- ---- the words in their order
abbrev words_of : List Line → List (List ℕ)
words_of lines = flat_map (λ words. words) lines

words_of-append : (a b : List Line) → words_of (a ++ b) ≡ words_of a ++ words_of b
words_of-append a b = flat_map-append (λ words. words) a b

words_of-map : {A : Type 0} (spell : A → Line) (entries : List A)
    → words_of (map spell entries) ≡ flat_map spell entries
words_of-map spell [] = refl
words_of-map spell (e ∷ entries) = ap (λ l. spell e ++ l) (words_of-map spell entries)

section-words : {A : Type 0} (word : List ℕ) (spell : A → Line) (entries : List A)
    → words_of (section_lines word spell entries) ≡ section word spell entries
section-words word spell entries = ap (λ l. word ∷ decimal (length entries) ∷ l) (words_of-map spell entries)

with-section : {A : Type 0} (word : List ℕ) (spell : A → Line) (entries : List A) (others : List Line)
    (tokens : List (List ℕ)) → words_of others ≡ tokens →
    words_of (section_lines word spell entries ++ others) ≡ section word spell entries ++ tokens
with-section word spell entries others tokens same =
    words_of-append (section_lines word spell entries) others ∙ (λ i. section-words word spell entries i ++ same i)

-- the tokens of the sections after the locations and before the records
abbrev pub spell_others : File → List (List ℕ)
spell_others f =
    section (codes "Curve2ds") spelling2 f.curve2s
    ++ (section (codes "Curves") spelling3 f.curves
    ++ (section (codes "Polygon3D") spell_polygon f.polygons
    ++ (section (codes "PolygonOnTriangulations") spell_polygon_on f.polygons_on
    ++ (section (codes "Surfaces") spell_surface f.surfaces
    ++ section (codes "Triangulations") spell_mesh f.meshes))))

tables-words : (f : File) → words_of (location_lines f.locations ++ table_lines f) ≡ spell_tables f
tables-words f =
    with-section (codes "Locations") spell_location f.locations (table_lines f) (spell_others f)
    (with-section (codes "Curve2ds") spelling2 f.curve2s _ _
    (with-section (codes "Curves") spelling3 f.curves _ _
    (with-section (codes "Polygon3D") spell_polygon f.polygons _ _
    (with-section (codes "PolygonOnTriangulations") spell_polygon_on f.polygons_on _ _
    (with-section (codes "Surfaces") spell_surface f.surfaces _ _
    (section-words (codes "Triangulations") spell_mesh f.meshes))))))

-- ---- each word is plain
abbrev ArePlain : List (List ℕ) → Type 0
ArePlain words = AllByRecursion IsPlain words

abbrev AreAllPlain : List Line → Type 0
AreAllPlain lines = AllByRecursion ArePlain lines

-- the words of the lines are dark, and split into tokens they are these
abbrev Spell : List Line → List (List ℕ) → Type 0
Spell lines tokens = AllByRecursion (AllByRecursion IsDarkWord) lines × (flat_map (flat_map split_word) lines ≡ tokens)

pub each-append : {X : Type 0} (P : X → Type 0) (a b : List X) → AllByRecursion P a → AllByRecursion P b
    → AllByRecursion P (a ++ b)
each-append P [] b h k = k
each-append P (x ∷ a) b h k = (h.0, each-append P a b h.1 k)

pub each-flat_map : {X Y : Type 0} (Q : X → Type 0) (P : Y → Type 0) (f : X → List Y)
    → ((x : X) → Q x → AllByRecursion P (f x)) →
    (xs : List X) → AllByRecursion Q xs → AllByRecursion P (flat_map f xs)
each-flat_map Q P f h [] are = tt
each-flat_map Q P f h (x ∷ xs) are = each-append P (f x) (flat_map f xs) (h x are.0) (each-flat_map Q P f h xs are.1)

spells-append : (a b : List Line) (s t : List (List ℕ)) → Spell a s → Spell b t → Spell (a ++ b) (s ++ t)
spells-append a b s t h k = (
  each-append (AllByRecursion IsDarkWord) a b h.0 k.0,
  flat_map-append (flat_map split_word) a b ∙ (λ i. h.1 i ++ k.1 i),
)

each-any : {X : Type 0} (xs : List X) → AllByRecursion (λ x. Unit {0}) xs
each-any [] = tt
each-any (x ∷ xs) = (tt, each-any xs)

sign-is : (t : Turn) → is_sign (sign_of t) ≡ true
sign-is Forward = refl
sign-is Reversed = refl
sign-is Internal = refl
sign-is External = refl

-- the tokens of sound entries are plain words
record EntriesArePlain : Type 0 where
  pub locations : (before : List LocationEntry) (entry : LocationEntry) → IsSoundLocation before entry
      → ArePlain (spell_location entry)
  pub curve2s : (c : Curve2) → IsSound2 c → ArePlain (spelling2 c)
  pub curves : (c : Curve3) → IsSound3 0 c → ArePlain (spelling3 c)
  pub polygons : (p : Polygon3) → IsSoundPolygon p → ArePlain (spell_polygon p)
  pub polygons_on : (p : PolygonOnMesh) → IsSoundPolygonOn p → ArePlain (spell_polygon_on p)
  pub surfaces : (s : Surface) → IsSoundSurface s → ArePlain (spell_surface s)
  pub meshes : (m : Mesh) → IsSoundMesh m → ArePlain (spell_mesh m)

map-plain : {A : Type 0} (IsSoundEntry : A → Type 0) (spell : A → Line)
    → ((e : A) → IsSoundEntry e → ArePlain (spell e)) → (entries : List A) → AllByRecursion IsSoundEntry entries →
    AreAllPlain (map spell entries)
map-plain IsSoundEntry spell h [] sound = tt
map-plain IsSoundEntry spell h (e ∷ entries) sound = (h e sound.0, map-plain IsSoundEntry spell h entries sound.1)

module _ (law : WrittenIsRead) (plain : EntriesArePlain) where
  plain-spells : (lines : List Line) (tokens : List (List ℕ)) → AreAllPlain lines → words_of lines ≡ tokens
      → Spell lines tokens
  plain-spells lines tokens are same = (let law_of = law.plain_lines lines are in (law_of.0, law_of.1 ∙ same))

  use-plain : (u : FileUse) → ArePlain (spell_use u)
  use-plain u = (law.use_signs (sign_of u.turn) u.number (sign-is u.turn), (law.numbers u.location, tt))

  uses-plain : (us : List FileUse) → ArePlain (flat_map spell_use us)
  uses-plain us = each-flat_map (λ u. Unit {0}) IsPlain spell_use (λ u any. use-plain u) us (each-any us)

  locations-plain : (before entries : List LocationEntry) → AreSoundAfter before entries
      → AreAllPlain (map spell_location entries)
  locations-plain before [] sound = tt
  locations-plain before (e ∷ entries) sound =
      (plain.locations before e sound.0, locations-plain (before ++ e ∷ []) entries sound.1)

  section-plain : {A : Type 0} (word : List ℕ) → IsPlain word → (IsSoundEntry : A → Type 0) (spell : A → Line)
      → ((e : A) → IsSoundEntry e → ArePlain (spell e)) → (entries : List A) →
      AllByRecursion IsSoundEntry entries → AreAllPlain (section_lines word spell entries)
  section-plain word word_plain IsSoundEntry spell h entries sound =
      ((word_plain, (law.numbers (length entries), tt)), map-plain IsSoundEntry spell h entries sound)

  tables-plain : (f : File) → AreSoundTables f → AreAllPlain (location_lines f.locations ++ table_lines f)
  tables-plain f sound =
      each-append ArePlain (location_lines f.locations) (table_lines f)
      ((refl, (law.numbers (length f.locations), tt)), locations-plain [] f.locations sound.locations)
      (each-append ArePlain (section_lines (codes "Curve2ds") spelling2 f.curve2s) _
      (section-plain (codes "Curve2ds") refl IsSound2 spelling2 plain.curve2s f.curve2s sound.curve2s.entries)
      (each-append ArePlain (section_lines (codes "Curves") spelling3 f.curves) _
      (section-plain (codes "Curves") refl (IsSound3 0) spelling3 plain.curves f.curves sound.curves.entries)
      (each-append ArePlain (section_lines (codes "Polygon3D") spell_polygon f.polygons) _
      (section-plain (codes "Polygon3D") refl IsSoundPolygon spell_polygon plain.polygons f.polygons
      sound.polygons.entries)
      (each-append ArePlain (section_lines (codes "PolygonOnTriangulations") spell_polygon_on f.polygons_on) _
      (section-plain (codes "PolygonOnTriangulations") refl IsSoundPolygonOn spell_polygon_on plain.polygons_on
      f.polygons_on sound.polygons_on.entries)
      (each-append ArePlain (section_lines (codes "Surfaces") spell_surface f.surfaces) _
      (section-plain (codes "Surfaces") refl IsSoundSurface spell_surface plain.surfaces f.surfaces
      sound.surfaces.entries)
      (section-plain (codes "Triangulations") refl IsSoundMesh spell_mesh plain.meshes f.meshes
      sound.meshes.entries))))))

  -- ---- lines with the tokens that they have
  tables-are : (f : File) → AreSoundTables f → Spell (location_lines f.locations ++ table_lines f) (spell_tables f)
  tables-are f sound =
      plain-spells (location_lines f.locations ++ table_lines f) (spell_tables f) (tables-plain f sound)
      (tables-words f)

  uses-line : (us : List FileUse)
      → Spell ((flat_map spell_use us ++ codes "*" ∷ []) ∷ []) (flat_map spell_use us ++ codes "*" ∷ [])
  uses-line us =
      plain-spells ((flat_map spell_use us ++ codes "*" ∷ []) ∷ []) (flat_map spell_use us ++ codes "*" ∷ [])
      (each-append IsPlain (flat_map spell_use us) (codes "*" ∷ []) (uses-plain us) (refl, tt), tt)
      (append-nil (flat_map spell_use us ++ codes "*" ∷ []))

  module _ (heads : LinesAreExact) (f : File) where
    abbrev HasHead : Record → Type 0
    HasHead r = IsSoundHead (sizes_of f) f.version r.head

    record-lines : (r : Record) → HasHead r → Spell (record_lines f.version r) (spell_record f.version r)
    record-lines r sound =
        let head = heads (sizes_of f) f.version r.head sound in
        spells-append (head_lines f.version r.head) ((flat_map spell_use r.uses ++ codes "*" ∷ []) ∷ [])
        (spell_head f.version r.head) (flat_map spell_use r.uses ++ codes "*" ∷ [])
        (head.dark, head.tokens) (uses-line r.uses)

    records-lines : (rs : List Record) → AllByRecursion HasHead rs
        → Spell (flat_map (record_lines f.version) rs) (flat_map (spell_record f.version) rs)
    records-lines [] sound = (tt, refl)
    records-lines (r ∷ rs) sound =
        spells-append (record_lines f.version r) (flat_map (record_lines f.version) rs) (spell_record f.version r)
        (flat_map (spell_record f.version) rs)
        (record-lines r sound.0) (records-lines rs sound.1)

    shapes-lines : AllByRecursion HasHead f.records
        → Spell (shape_lines f) (section (codes "TShapes") (spell_record f.version) f.records ++ spell_use f.root)
    shapes-lines sound =
        spells-append (heading (codes "TShapes") (length f.records) ∷ [])
        (flat_map (record_lines f.version) f.records ++ spell_use f.root ∷ [])
        (heading (codes "TShapes") (length f.records)) (flat_map (spell_record f.version) f.records ++ spell_use f.root)
        (plain-spells (heading (codes "TShapes") (length f.records) ∷ []) (heading (codes "TShapes") (length f.records))
        ((refl, (law.numbers (length f.records), tt)), tt) refl)
        (spells-append (flat_map (record_lines f.version) f.records) (spell_use f.root ∷ [])
        (flat_map (spell_record f.version) f.records) (spell_use f.root)
        (records-lines f.records sound) (plain-spells (spell_use f.root ∷ []) (spell_use f.root) (use-plain f.root, tt)
        (append-nil (spell_use f.root))))

    sound-heads : IsSound f → AllByRecursion HasHead f.records
    sound-heads sound = recursion_from_All HasHead f.records (λ k d lt.
        let back : length f.records - (length f.records - k) ≡ k = omega (arith, lt) in
        (sound.records (length f.records - k) (get_or f.records k d) (omega (arith, lt), omega arith)
        (ap (λ i. slice_get f.records i) back ∙ slice_get-get_or f.records k d lt)).head)

    -- the layout of a sound file spells it
    layout-spells : IsSound f → Spells (layout f) f
    layout-spells sound =
        let lines = spells-append (location_lines f.locations ++ table_lines f) (shape_lines f) (spell_tables f)
        (section (codes "TShapes") (spell_record f.version) f.records ++ spell_use f.root) (tables-are f sound.tables)
        (shapes-lines (sound-heads sound)) in
        let read = law.read f.version (file_lines f) sound.version lines.0 in
        record { tokens = (read.0, read.1, inl (read.2 ∙ lines.1)); sound = sound }

-- ---- the law
module _
    (written_is_read : WrittenIsRead)
    (locations : LocationsAreExact)
    (curves : CurvesAreExact)
    (surfaces : SurfacesAreExact)
    (meshes : MeshesAreExact)
    (heads : LinesAreExact)
  where
    decimals-plain : (texts : List (List ℕ)) → AllByRecursion IsDecimal texts → AllByRecursion IsPlain texts
    decimals-plain [] are = tt
    decimals-plain (t ∷ texts) are = (written_is_read.decimals t are.0, decimals-plain texts are.1)

    decimals_or_p-plain : (texts : List (List ℕ)) → AllByRecursion IsDecimalOrP texts → AllByRecursion IsPlain texts
    decimals_or_p-plain [] are = tt
    decimals_or_p-plain (t ∷ texts) are = (
      elim are.0 [ inl d ↦ written_is_read.decimals t d | inr p ↦ subst IsPlain (sym p) refl ],
      decimals_or_p-plain texts are.1,
    )

    plain : EntriesArePlain
    plain = record {
      locations = locations.forms;
      curve2s = λ c sound. decimals-plain (spelling2 c) (curves.forms2 c sound);
      curves = λ c sound. decimals-plain (spelling3 c) (curves.forms3 0 c sound);
      polygons = λ p sound. decimals-plain (spell_polygon p) (meshes.polygon_forms p sound);
      polygons_on = λ p sound. decimals_or_p-plain (spell_polygon_on p) (meshes.polygon_on_forms p sound);
      surfaces = λ s sound. decimals-plain (spell_surface s) (surfaces.forms s sound);
      meshes = λ m sound. decimals-plain (spell_mesh m) (meshes.mesh_forms m sound);
    }

    pub layouts-spell : LayoutsSpell
    layouts-spell f sound = layout-spells written_is_read plain heads f sound
