-- What makes a file sound, and when it is small enough to be read.
use Rattle.std.specs.Prelude.{◌≡◌, ◌⊎◌, ◌+◌, ◌<◌, ◌≤◌, ◌^◌, ℕ, List, [], ◌∷◌, All, length, Some}
use Rattle.std.specs.List.{AllByRecursion, flat_map}
use Rattle.orientation.specs.Kinds.{IsBelow}
use Rattle.orientation.specs.declared.kind.Kind.{Kind}
use Rattle.location_table.specs.Locations.{AreSoundLocations}
use Rattle.curve_tables.specs.Sound.{IsSound2, IsSound3}
use Rattle.surface_tables.specs.Sound.{IsSoundSurface}
use Rattle.mesh_tables.specs.Sound.{IsSoundPolygon, IsSoundPolygonOn, IsSoundMesh}
use Rattle.tshape_data.specs.RepReading.{most_reps}
use Rattle.tshape_data.specs.Sound.{IsSoundHead, rep_count}
use Rattle.tshape_data.specs.declared.head_bounds.HeadBounds.{HeadBounds}
use Rattle.expansion_laws.specs.Measures.{depth}
use Rattle.expansion_laws.specs.Expansion.{IsNumberOf}
use Rattle.brep_file.specs.declared.uses.FileUse.{FileUse}
use Rattle.brep_file.specs.declared.records.Record.{Record}
use Rattle.brep_file.specs.declared.file.File.{File}
use Rattle.brep_file.specs.PlainRecords.{record_of, tree_of_record}
use Rattle.brep_file.specs.Spelling.{spell_file}

-- a number has at most 18 digits
abbrev pub IsCountable : {A : Type 0} → List A → Type 0
IsCountable entries = length entries < 10 ^ 18

-- a section's entries are so many that a number tells them, and each of them is sound
pub record IsSoundTable {A : Type 0} (IsSoundEntry : A → Type 0) (table : List A) : Type 0 where
  pub countable : IsCountable table
  pub entries : AllByRecursion IsSoundEntry table

pub record AreSoundTables (f : File) : Type 0 where
  pub countable : IsCountable f.locations
  pub locations : AreSoundLocations f.locations
  pub curve2s : IsSoundTable IsSound2 f.curve2s
  pub curves : IsSoundTable (IsSound3 0) f.curves
  pub polygons : IsSoundTable IsSoundPolygon f.polygons
  pub polygons_on : IsSoundTable IsSoundPolygonOn f.polygons_on
  pub surfaces : IsSoundTable IsSoundSurface f.surfaces
  pub meshes : IsSoundTable IsSoundMesh f.meshes

-- how many entries each table has
abbrev pub sizes_of : File → HeadBounds
sizes_of f = record {
  locations = length f.locations;
  curve2s = length f.curve2s;
  curves = length f.curves;
  polygons = length f.polygons;
  polygons_on = length f.polygons_on;
  surfaces = length f.surfaces;
  meshes = length f.meshes;
  reps = 0;
}

-- a use in the record with the number `own` and of the kind `parent`: it names a record above, whose kind is in order,
-- and
-- a location
pub record IsUse (f : File) (own : ℕ) (parent : Kind) (u : FileUse) : Type 0 where
  pub above : own < u.number
  pub named : u.number ≤ length f.records
  pub in_order : (r : Record) → record_of f u.number ≡ Some r → IsBelow r.head.kind parent
  pub location : u.location ≤ length f.locations

pub record IsRecord (f : File) (own : ℕ) (r : Record) : Type 0 where
  pub head : IsSoundHead (sizes_of f) f.version r.head
  pub uses : All (IsUse f own r.head.kind) r.uses

pub record IsSound (f : File) : Type 0 where
  pub version : (f.version ≡ 1) ⊎ (f.version ≡ 2)
  -- a token has at most 128 bytes
  pub tokens : AllByRecursion (λ text. length text ≤ 128) (spell_file f)
  pub tables : AreSoundTables f
  pub countable : IsCountable f.records
  pub records : (k : ℕ) (r : Record) → IsNumberOf (length f.records) k → record_of f k ≡ Some r → IsRecord f k r
  pub depths : (k : ℕ) → IsNumberOf (length f.records) k → depth (tree_of_record f k) ≤ 512
  pub root : IsNumberOf (length f.records) f.root.number
  pub root_location : f.root.location ≤ length f.locations

-- how many representations stand in records
abbrev pub reps_in : List Record → ℕ
reps_in [] = 0
reps_in (r ∷ rs) = rep_count r.head.payload + reps_in rs

-- how many entries each table may have, how many records, and how many uses of records together
pub record Limits : Type 0 where
  pub entries : ℕ
  pub records : ℕ
  pub uses : ℕ

pub record IsWithin (limits : Limits) (f : File) : Type 0 where
  pub locations : length f.locations ≤ limits.entries
  pub curve2s : length f.curve2s ≤ limits.entries
  pub curves : length f.curves ≤ limits.entries
  pub polygons : length f.polygons ≤ limits.entries
  pub polygons_on : length f.polygons_on ≤ limits.entries
  pub surfaces : length f.surfaces ≤ limits.entries
  pub meshes : length f.meshes ≤ limits.entries
  pub records : length f.records ≤ limits.records
  pub uses : length (flat_map (λ r. r.uses) f.records) ≤ limits.uses
  pub reps : reps_in f.records ≤ most_reps

-- the limits of the program
abbrev pub file_limits : Limits
file_limits = record { entries = 4194304; records = 2097152; uses = 16777216 }

-- the counts are within the limits of the program
abbrev pub IsWithinLimits : File → Type 0
IsWithinLimits f = IsWithin file_limits f
