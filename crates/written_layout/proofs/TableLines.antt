-- The lines of entries of tables.
use Rattle.std.proofs.Common.{◌≡◌, ◌≤◌, ◌+◌, refl, sym, ◌∙◌, ap, subst}
use Rattle.std.specs.Prelude.{ℕ, Bool, true, false, if◌then◌else◌, List, [], ◌∷◌, ◌++◌, All}
use Rattle.std.specs.Prelude.{length, codes}
use Rattle.std.specs.List.{AllByRecursion, flat_map, join_with_byte}
use Rattle.std.specs.Iterator.{Drains, Yields, YieldsFirst}
use Rattle.std.proofs.lemmas.Grind.{flat_map-append}
use Rattle.std.proofs.lemmas.List.{append_assoc}
use Rattle.std.proofs.lemmas.List.Elements.{All-from_recursion}
use Rattle.brep_tokens.specs.Written.{line_text, lines_text}
use Rattle.entry_readers.specs.Spelled.{AreShort}
use Rattle.location_table.specs.declared.entry.LocationEntry.{LocationEntry}
use Rattle.location_table.specs.declared.entry.LocationEntry.TheVariants.{Datum, Product}
use Rattle.location_table.specs.Locations.{spell_location}
use Rattle.location_table.specs.Spell.{CanSpellLocation}
use Rattle.curve_tables.specs.Spelling.{spelling2, spelling3}
use Rattle.mesh_tables.specs.Spelling.{spell_mesh, spell_polygon, spell_polygon_on}
use Rattle.surface_tables.specs.Spelling.{spell_surface}
use Rattle.brep_file.specs.declared.file.File.{File}
use Rattle.brep_file.specs.Sound.{IsSound}
use Rattle.brep_file.specs.Spelling.{section, spell_record, spell_tables, spell_use}
use Rattle.written_layout.specs.Layout.{Line}
use Rattle.written_layout.proofs.Spelled.{spell_others}

-- ---- what holds of each of two lists in a row
pub each-left : {X : Type 0} (P : X → Type 0) (a b : List X) → AllByRecursion P (a ++ b) → AllByRecursion P a
each-left P [] b h = tt
each-left P (x ∷ a) b h = (h.0, each-left P a b h.1)

pub each-right : {X : Type 0} (P : X → Type 0) (a b : List X) → AllByRecursion P (a ++ b) → AllByRecursion P b
each-right P [] b h = h
each-right P (x ∷ a) b h = each-right P a b h.1

-- ---- the tokens that an iterator gives
pub drains-first : {S : Type 0} (rest : S → List (List ℕ)) (s : S) (xs : List (List ℕ)) → Drains (YieldsFirst rest) s xs
    → rest s ≡ xs
drains-first {S} rest s xs drains = go s xs drains.1.0 drains.1.1 drains.1.2.0
  where
    go : (a : S) (ys : List (List ℕ)) (t : S) → Yields (YieldsFirst rest) a ys t → rest t ≡ [] → rest a ≡ ys
    go a [] t y e = ap rest y ∙ e
    go a (y ∷ ys) t steps e = steps.1 ∙ ap (λ l. y ∷ l) (go steps.0 ys t steps.2 e)

-- a token more on a line
abbrev pub is_none : List (List ℕ) → Bool
is_none [] = true
is_none (x ∷ xs) = false

join-push : (xs : List (List ℕ)) (x : List ℕ)
    → join_with_byte 32 (xs ++ x ∷ []) ≡ join_with_byte 32 xs ++ (if is_none xs then x else 32 ∷ x)
join-push [] x = refl
join-push (y ∷ []) x = refl
join-push (y ∷ z ∷ xs) x =
    ap (λ t. y ++ 32 ∷ t) (join-push (z ∷ xs) x) ∙ sym (append_assoc y (32 ∷ join_with_byte 32 (z ∷ xs)) (32 ∷ x))

pub none-push : (xs : List (List ℕ)) (x : List ℕ) → is_none (xs ++ x ∷ []) ≡ false
none-push [] x = refl
none-push (y ∷ xs) x = refl

pub token-more : (xs : List (List ℕ)) (x : List ℕ) (first : Bool) → first ≡ is_none xs
    → join_with_byte 32 xs ++ (if first then x else 32 ∷ x) ≡ join_with_byte 32 (xs ++ x ∷ [])
token-more xs x first flag =
    (λ i. join_with_byte 32 xs ++ (if flag i then x else 32 ∷ x)) ∙ sym (join-push xs x)

-- ---- entries that can be spelled
all-can : {A : Type 0} (IsSoundEntry CanSpell : A → Type 0) (spell : A → List (List ℕ))
    → ((e : A) → IsSoundEntry e → AreShort (spell e) → CanSpell e) → (entries : List A) →
    AllByRecursion IsSoundEntry entries → AreShort (flat_map spell entries) → AllByRecursion CanSpell entries
all-can IsSoundEntry CanSpell spell h [] sound short = tt
all-can IsSoundEntry CanSpell spell h (e ∷ entries) sound short = (
  h e sound.0 (each-left (λ (t : List ℕ). length t ≤ 128) (spell e) (flat_map spell entries) short),
  all-can IsSoundEntry CanSpell spell h entries sound.1
      (each-right (λ (t : List ℕ). length t ≤ 128) (spell e) (flat_map spell entries) short),
)

pub can-all : {A : Type 0} (IsSoundEntry CanSpell : A → Type 0) (spell : A → List (List ℕ))
    → ((e : A) → IsSoundEntry e → AreShort (spell e) → CanSpell e) → (entries given : List A) → given ≡ entries →
    AllByRecursion IsSoundEntry entries → AreShort (flat_map spell entries) → All CanSpell given
can-all IsSoundEntry CanSpell spell h entries given same sound short =
    subst (All CanSpell) (sym same) (All-from_recursion CanSpell entries
    (all-can IsSoundEntry CanSpell spell h entries sound short))

locations-can : (entries : List LocationEntry) → AreShort (flat_map spell_location entries)
    → AllByRecursion CanSpellLocation entries
locations-can [] short = tt
locations-can (Datum texts ∷ entries) short = (
  each-left (λ (t : List ℕ). length t ≤ 128) texts (flat_map spell_location entries) short.1,
  locations-can entries (each-right (λ (t : List ℕ). length t ≤ 128) texts (flat_map spell_location entries) short.1),
)
locations-can (Product factors ∷ entries) short = (
  tt,
  locations-can entries (each-right (λ (t : List ℕ). length t ≤ 128) (spell_location (Product factors))
      (flat_map spell_location entries) short),
)

-- the tokens of a sound file's tables
pub short-tables : (f : File) → IsSound f → AreShort (spell_tables f)
short-tables f sound =
    each-left (λ (t : List ℕ). length t ≤ 128) (spell_tables f)
    (section (codes "TShapes") (spell_record f.version) f.records ++ spell_use f.root) sound.tokens

pub short-others : (f : File) → IsSound f → AreShort (spell_others f)
short-others f sound =
    each-right (λ (t : List ℕ). length t ≤ 128) (section (codes "Locations") spell_location f.locations)
    (spell_others f) (short-tables f sound)

-- the tokens of each table of a sound file
pub record ShortTables (f : File) : Type 0 where
  pub curve2s : AreShort (flat_map spelling2 f.curve2s)
  pub curves : AreShort (flat_map spelling3 f.curves)
  pub polygons : AreShort (flat_map spell_polygon f.polygons)
  pub polygons_on : AreShort (flat_map spell_polygon_on f.polygons_on)
  pub surfaces : AreShort (flat_map spell_surface f.surfaces)
  pub meshes : AreShort (flat_map spell_mesh f.meshes)

pub short-table : (f : File) → IsSound f → ShortTables f
short-table f sound =
    let P : List ℕ → Type 0 = λ t. length t ≤ 128 in
    let a = short-others f sound in
    let b = each-right P (section (codes "Curve2ds") spelling2 f.curve2s) _ a in
    let d = each-right P (section (codes "Curves") spelling3 f.curves) _ b in
    let e = each-right P (section (codes "Polygon3D") spell_polygon f.polygons) _ d in
    let h = each-right P (section (codes "PolygonOnTriangulations") spell_polygon_on f.polygons_on) _ e in
    let j = each-right P (section (codes "Surfaces") spell_surface f.surfaces) _ h in
    record {
      curve2s = (each-left P (section (codes "Curve2ds") spelling2 f.curve2s) _ a).1.1;
      curves = (each-left P (section (codes "Curves") spelling3 f.curves) _ b).1.1;
      polygons = (each-left P (section (codes "Polygon3D") spell_polygon f.polygons) _ d).1.1;
      polygons_on = (each-left P (section (codes "PolygonOnTriangulations") spell_polygon_on f.polygons_on) _ e).1.1;
      surfaces = (each-left P (section (codes "Surfaces") spell_surface f.surfaces) _ h).1.1;
      meshes = j.1.1;
    }

-- lines in front of others
pub lines-before : (first others : List Line) → lines_text first ++ lines_text others ≡ lines_text (first ++ others)
lines-before first others = sym (flat_map-append line_text first others)

pub six : (a b d e h g : List Line)
    → lines_text a ++ (lines_text b ++ (lines_text d ++ (lines_text e ++ (lines_text h ++ lines_text g))))
    ≡ lines_text (a ++ (b ++ (d ++ (e ++ (h ++ g)))))
six a b d e h g =
    ap (λ t. lines_text a ++ (lines_text b ++ (lines_text d ++ (lines_text e ++ t)))) (lines-before h g)
    ∙ ap (λ t. lines_text a ++ (lines_text b ++ (lines_text d ++ t))) (lines-before e (h ++ g))
    ∙ ap (λ t. lines_text a ++ (lines_text b ++ t)) (lines-before d (e ++ (h ++ g)))
    ∙ ap (λ t. lines_text a ++ t) (lines-before b (d ++ (e ++ (h ++ g))))
    ∙ lines-before a (b ++ (d ++ (e ++ (h ++ g))))

-- the locations of a sound file can be spelled
pub can-locations : (f : File) → IsSound f → (entries : List LocationEntry) → entries ≡ f.locations
    → All CanSpellLocation entries
can-locations f sound entries same =
    subst (All CanSpellLocation) (sym same)
    (All-from_recursion CanSpellLocation f.locations
    (locations-can f.locations (each-left (λ (t : List ℕ). length t ≤ 128)
    (section (codes "Locations") spell_location f.locations) (spell_others f) (short-tables f sound)).1.1))
