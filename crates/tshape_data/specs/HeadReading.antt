-- Reading a record without its uses: its kind, its data and its flags.
use Rattle.std.specs.Prelude.{ℕ, ◌-◌, if◌then◌else◌, nat_eq, List, [], ◌∷◌, Option, Some, None, Ok, Err, codes}
use Rattle.std.specs.Cmp.Lexicographic.{pointwise}
use Rattle.brep_tokens.specs.declared.text.Token.{Token}
use Rattle.brep_tokens.specs.declared.fault.ReadCode.TheVariants as faults
use Rattle.lists.specs.Results.{◌>>=◌}
use Rattle.entry_readers.specs.Reading.{Read, more, spelled, decimals_at, flag_at, ranged_at}
use Rattle.orientation.specs.declared.kind.Kind.{Kind}
use Rattle.orientation.specs.declared.kind.Kind.TheVariants.{Ve, Ed, Fa}
use Rattle.orientation.specs.Kinds.{kind_of_name}
use Rattle.tshape_data.specs.Flags.{flags_of}
use Rattle.tshape_data.specs.RepReading.{edge_reps_at, most_reps, points_at}
use Rattle.tshape_data.specs.declared.head_bounds.HeadBounds.{HeadBounds}
use Rattle.tshape_data.specs.declared.head.Flags.{Flags}
use Rattle.tshape_data.specs.declared.head.Payload.{Payload}
use Rattle.tshape_data.specs.declared.head.Payload.TheVariants.{Vertex, Edge, Face, Nothing}
use Rattle.tshape_data.specs.declared.head.Head.{Head}

-- the name of a kind
abbrev pub kind_at : List Token → Read Kind
kind_at [] = Err more
kind_at (t ∷ ts) = spelled faults.WordExpected t ts (kind_of_name t.text)

-- the seven flags
abbrev pub flags_at : List Token → Read Flags
flags_at [] = Err more
flags_at (t ∷ ts) = spelled faults.FlagExpected t ts (flags_of t.text)

-- how many representations may stand in a record and those after it
abbrev pub room_of : HeadBounds → ℕ
room_of b = most_reps - b.reps

-- a vertex: its tolerance and its coordinates, and its representations
abbrev pub vertex_at : HeadBounds → List Token → Read Payload
vertex_at b ts = do
  texts ← decimals_at 4 ts
  points ← points_at b (room_of b) texts.1
  Ok (Vertex (record { texts = texts.0; points = points.0 }), points.1)

-- an edge: its tolerance, three flags, and its representations
abbrev pub edge_at : HeadBounds → ℕ → List Token → Read Payload
edge_at b version ts = do
  tolerance ← decimals_at 1 ts
  same_parameter ← flag_at tolerance.1
  same_range ← flag_at same_parameter.1
  degenerated ← flag_at same_range.1
  reps ← edge_reps_at b version (room_of b) degenerated.1
  Ok (
    Edge (record {
      tolerance = tolerance.0;
      same_parameter = same_parameter.0;
      same_range = same_range.0;
      degenerated = degenerated.0;
      reps = reps.0;
    }),
    reps.1,
  )

-- after a face's location: `2` and a triangulation's number, or nothing
abbrev pub mesh_at : HeadBounds → List Token → Read (Option ℕ)
mesh_at b [] = Err more
mesh_at b (t ∷ ts) = if pointwise nat_eq t.text (codes "2")
    then (ranged_at 1 b.meshes ts >>= λ mesh. Ok (Some mesh.0, mesh.1)) else Ok (None, t ∷ ts)

-- a face: its flag, its tolerance, its surface, its location, and perhaps its triangulation
abbrev pub face_at : HeadBounds → List Token → Read Payload
face_at b ts = do
  natural ← flag_at ts
  tolerance ← decimals_at 1 natural.1
  surface ← ranged_at 0 b.surfaces tolerance.1
  location ← ranged_at 0 b.locations surface.1
  mesh ← mesh_at b location.1
  Ok (
    Face (record {
      natural = natural.0;
      tolerance = tolerance.0;
      surface = surface.0;
      location = location.0;
      mesh = mesh.0;
    }),
    mesh.1,
  )

-- the data of a kind; wires, shells, solids, composite solids and compounds have none
abbrev pub payload_at : HeadBounds → ℕ → Kind → List Token → Read Payload
payload_at b version Ve ts = vertex_at b ts
payload_at b version Ed ts = edge_at b version ts
payload_at b version Fa ts = face_at b ts
payload_at b version _ ts = Ok (Nothing, ts)

abbrev pub flagged_at : Kind → Payload → List Token → Read Head
flagged_at kind payload ts =
    flags_at ts >>= λ flags. Ok (record { kind = kind; payload = payload; flags = flags.0 }, flags.1)

-- The whole: within these bounds, in a file of this version.
abbrev pub head_at : HeadBounds → ℕ → List Token → Read Head
head_at b version ts = do
  kind ← kind_at ts
  payload ← payload_at b version kind.0 kind.1
  flagged_at kind.0 payload.0 payload.1
