-- Reading a whole file from its tokens and from its bytes.
use Rattle.std.specs.Prelude.{ℕ, if◌then◌else◌, nat_le, nat_eq, List, [], ◌∷◌, length, Option, Some, None, Result, Ok}
use Rattle.std.specs.Prelude.{Err, unwrap_or, true, codes}
use Rattle.std.specs.Cmp.Lexicographic.{pointwise}
use Rattle.brep_tokens.specs.Tokens.{Word, Head, missing, unread, version, head_at, words_at}
use Rattle.brep_tokens.specs.declared.text.Token.{Token}
use Rattle.brep_tokens.specs.declared.fault.ReadFault.{ReadFault}
use Rattle.brep_tokens.specs.declared.fault.ReadCode.TheVariants as faults
use Rattle.lists.specs.Results.{◌>>=◌}
use Rattle.entry_readers.specs.Reading.{Read, fault, more, at_token}
use Rattle.orientation.specs.declared.turn.Turn.TheVariants.{Forward}
use Rattle.curve_tables.specs.Curves.{curve2_at, curve3_at}
use Rattle.surface_tables.specs.Surfaces.{surface_at}
use Rattle.mesh_tables.specs.Meshes.{polygon_at, polygon_on_at, mesh_at}
use Rattle.brep_file.specs.declared.file.File.{File}
use Rattle.brep_file.specs.Sound.{Limits, sizes_of}
use Rattle.brep_file.specs.SectionReading.{heading_at, section_at, location_section_at}
use Rattle.brep_file.specs.RecordReading.{nothing_read, records_from, root_at}

-- a file of which nothing is read but its version
abbrev pub begun : ℕ → File
begun v = record {
  version = v;
  locations = [];
  curve2s = [];
  curves = [];
  polygons = [];
  polygons_on = [];
  surfaces = [];
  meshes = [];
  records = [];
  root = record { turn = Forward; number = 0; location = 0 };
}

-- ---- the rest of a file from a section on, after what was read before it

unfoldable pub from_root : File → List Token → Read File
from_root f ts = root_at (length f.locations) (length f.records) ts >>= λ x. Ok (record f { root = x.0 }, x.1)

module _ (limits : Limits) where
  unfoldable pub from_records : File → List Token → Read File
  from_records f ts =
      heading_at (codes "TShapes") limits.records ts >>= λ n.
      records_from (record { tables = sizes_of f; version = f.version; records = n.0; uses = limits.uses }) nothing_read
      n.0 n.1 >>= λ x.
      from_root (record f { records = x.0.records }) x.1

  unfoldable pub from_meshes : File → List Token → Read File
  from_meshes f ts = section_at (codes "Triangulations") limits.entries mesh_at ts
      >>= λ x. from_records (record f { meshes = x.0 }) x.1

  unfoldable pub from_surfaces : File → List Token → Read File
  from_surfaces f ts = section_at (codes "Surfaces") limits.entries surface_at ts
      >>= λ x. from_meshes (record f { surfaces = x.0 }) x.1

  unfoldable pub from_polygons_on : File → List Token → Read File
  from_polygons_on f ts = section_at (codes "PolygonOnTriangulations") limits.entries polygon_on_at ts
      >>= λ x. from_surfaces (record f { polygons_on = x.0 }) x.1

  unfoldable pub from_polygons : File → List Token → Read File
  from_polygons f ts = section_at (codes "Polygon3D") limits.entries polygon_at ts
      >>= λ x. from_polygons_on (record f { polygons = x.0 }) x.1

  unfoldable pub from_curves : File → List Token → Read File
  from_curves f ts = section_at (codes "Curves") limits.entries (curve3_at 0) ts
      >>= λ x. from_polygons (record f { curves = x.0 }) x.1

  unfoldable pub from_curve2s : File → List Token → Read File
  from_curve2s f ts = section_at (codes "Curve2ds") limits.entries curve2_at ts
      >>= λ x. from_curves (record f { curve2s = x.0 }) x.1

  unfoldable pub from_locations : File → List Token → Read File
  from_locations f ts = location_section_at limits.entries ts >>= λ x. from_curve2s (record f { locations = x.0 }) x.1

-- ---- the tokens of a text: those before the first of more than 128 bytes

abbrev pub short_front : List Word → List Token
short_front [] = []
short_front (w ∷ ws) = if nat_le (length w.text) 128 then record { offset = w.offset; text = w.text } ∷ short_front ws
    else []

abbrev pub too_long : List Word → Option ReadFault
too_long [] = None
too_long (w ∷ ws) = if nat_le (length w.text) 128 then too_long ws
    else Some (record { code = faults.TokenTooLong; offset = w.offset; value = 129; limit = 128 })

-- where a token is due after them: the longer one is refused, or the end of the text of this size
abbrev pub unfinished : ℕ → List Word → ReadFault
unfinished size ws = unwrap_or (too_long ws) (record { code = faults.Truncated; offset = size; value = 0; limit = 0 })

-- ---- after the root use: nothing, or one token `0`

abbrev pub ended : File → Option ReadFault → Result File ReadFault
ended f None = Ok f
ended f (Some x) = Err x

abbrev pub tail_fault : Token → ReadFault
tail_fault t = at_token faults.Tail 0 0 t

abbrev pub after_zero : File → Option ReadFault → List Token → Result File ReadFault
after_zero f long [] = ended f long
after_zero f long (t ∷ ts) = Err (tail_fault t)

abbrev pub closed : File → Option ReadFault → List Token → Result File ReadFault
closed f long [] = ended f long
closed f long (t ∷ ts) = if pointwise nat_eq t.text (codes "0") then after_zero f long ts else Err (tail_fault t)

-- ---- the whole

abbrev pub finished : ℕ → List Word → Read File → Result File ReadFault
finished size ws (Ok r) = closed r.0 (too_long ws) r.1
finished size ws (Err more) = Err (unfinished size ws)
finished size ws (Err (fault x)) = Err x

-- the words after the version line
abbrev pub read_words : Limits → ℕ → ℕ → List Word → Result File ReadFault
read_words limits size v ws = finished size ws (from_locations limits (begun v) (short_front ws))

abbrev pub read_head : Limits → ℕ → Head → Result File ReadFault
read_head limits size missing = Err (record { code = faults.NoVersion; offset = size; value = 0; limit = 0 })
read_head limits size (unread line k) =
    Err (record { code = faults.VersionNotRead; offset = k; value = line; limit = 0 })
read_head limits size (version v k rest) = read_words limits size v (words_at k rest)

-- The file that the bytes spell, within the limits; or the fault of the first token that isn't accepted.
unfoldable pub read_text : Limits → List ℕ → Result File ReadFault
read_text limits bytes = read_head limits (length bytes) (head_at true 1 0 bytes)
