-- What the reader of a head has still to read.
use Rattle.std.specs.Prelude.{◌≡◌, ◌<◌, ℕ, Bool, List, ◌∷◌, Option, Some, Result, Ok, Err}
use Rattle.brep_tokens.specs.declared.fault.Progress.{Progress}
use Rattle.brep_tokens.specs.declared.fault.ReadStop.{ReadStop}
use Rattle.brep_tokens.specs.declared.text.Token.{Token}
use Rattle.entry_readers.specs.Left.{decimals_left}
use Rattle.lists.specs.Results.{◌>>=◌}
use Rattle.entry_readers.specs.Reading.{Read, decimals_at, flag_at, ranged_at}
use Rattle.entry_readers.specs.Takes.{Stops, Takes}
use Rattle.orientation.specs.declared.kind.Kind.{Kind}
use Rattle.orientation.specs.declared.kind.Kind.TheVariants.{Ve, Ed, Fa}
use Rattle.tshape_data.specs.EdgesLeft as edges
use Rattle.tshape_data.specs.EdgesLeft.{edges_left}
use Rattle.tshape_data.specs.HeadReading.{edge_at, face_at, flagged_at, head_at, mesh_at, payload_at, room_of}
use Rattle.tshape_data.specs.PointsLeft as points
use Rattle.tshape_data.specs.PointsLeft.{points_left}
use Rattle.tshape_data.specs.RepReading.{edge_reps_at, points_at}
use Rattle.tshape_data.specs.declared.head_bounds.HeadBounds.{HeadBounds}
use Rattle.tshape_data.specs.declared.head.Head.{Head}
use Rattle.tshape_data.specs.declared.head.Payload.{Payload}
use Rattle.tshape_data.specs.declared.head.Payload.TheVariants.{Vertex, Edge, Face, Nothing}
use Rattle.tshape_data.specs.declared.reader.HeadReader.{HeadReader}
use Rattle.tshape_data.specs.declared.reps.EdgeRep.{EdgeRep}
use Rattle.tshape_data.specs.declared.reps.PointRep.{PointRep}
use Rattle.tshape_data.specs.declared.stage.Fields.{Fields}
use Rattle.tshape_data.specs.declared.stage.Fields.TheVariants as fields
use Rattle.tshape_data.specs.declared.stage.Stage.{Stage}
use Rattle.tshape_data.specs.declared.stage.Stage.TheVariants as stages

-- a value is read from the token alone, or the reader stops at it
abbrev pub AnswersOrStops : {A : Type 0} → (List Token → Read A) → Token → Result A ReadStop → Type 0
AnswersOrStops read t (Ok x) = (rest : List Token) → read (t ∷ rest) ≡ Ok (x, rest)
AnswersOrStops read t (Err e) = Stops read t e

-- ---- the data, and then the flags

abbrev pub then_flags : Kind → Read Payload → Read Head
then_flags kind read = read >>= λ payload. flagged_at kind payload.0 payload.1

-- ---- of a vertex

abbrev pub points_then : List (List ℕ) → Read (List PointRep) → Read Payload
points_then texts read = read >>= λ points. Ok (Vertex (record { texts = texts; points = points.0 }), points.1)

-- ---- of an edge

abbrev pub reps_then : List (List ℕ) → Bool → Bool → Bool → Read (List EdgeRep) → Read Payload
reps_then tolerance same_parameter same_range degenerated read =
    read >>= λ reps. Ok (
      Edge (record {
        tolerance = tolerance;
        same_parameter = same_parameter;
        same_range = same_range;
        degenerated = degenerated;
        reps = reps.0;
      }),
      reps.1,
    )

module _ (b : HeadBounds) (version : ℕ) (tolerance : List (List ℕ)) where
  abbrev pub from_degenerated : Bool → Bool → List Token → Read Payload
  from_degenerated same_parameter same_range ts = do
    degenerated ← flag_at ts
    reps_then tolerance same_parameter same_range degenerated.0 (edge_reps_at b version (room_of b) degenerated.1)

  abbrev pub from_same_range : Bool → List Token → Read Payload
  from_same_range same_parameter ts = do
    same_range ← flag_at ts
    from_degenerated same_parameter same_range.0 same_range.1

  abbrev pub from_same_parameter : List Token → Read Payload
  from_same_parameter ts = do
    same_parameter ← flag_at ts
    from_same_range same_parameter.0 same_parameter.1

-- ---- of a face

module _ (natural : Bool) (tolerance : List (List ℕ)) where
  abbrev pub mesh_then : ℕ → ℕ → Read (Option ℕ) → Read Payload
  mesh_then surface location read =
      read >>= λ mesh. Ok (
        Face (record {
          natural = natural;
          tolerance = tolerance;
          surface = surface;
          location = location;
          mesh = mesh.0;
        }),
        mesh.1,
      )

  abbrev pub from_location : HeadBounds → ℕ → List Token → Read Payload
  from_location b surface ts = do
    location ← ranged_at 0 b.locations ts
    mesh_then surface location.0 (mesh_at b location.1)

  abbrev pub from_surface : HeadBounds → List Token → Read Payload
  from_surface b ts = do
    surface ← ranged_at 0 b.surfaces ts
    from_location b surface.0 surface.1

abbrev pub from_tolerance : HeadBounds → Bool → List Token → Read Payload
from_tolerance b natural ts = do
  tolerance ← decimals_at 1 ts
  from_surface natural tolerance.0 b tolerance.1

abbrev pub mesh_number : HeadBounds → List Token → Read (Option ℕ)
mesh_number b ts = do
  mesh ← ranged_at 1 b.meshes ts
  Ok (Some mesh.0, mesh.1)

-- ---- the whole

abbrev pub kind_of : Fields → Kind
kind_of fields.Vertex = Ve
kind_of (fields.Edge flags) = Ed
kind_of (fields.Face support mesh) = Fa
kind_of (fields.Nothing kind) = kind

abbrev pub payload_from : Fields → List (List ℕ) → List PointRep → List EdgeRep → Payload
payload_from fields.Vertex texts points reps = Vertex (record { texts = texts; points = points })
payload_from (fields.Edge f) texts points reps =
    Edge (record {
      tolerance = texts;
      same_parameter = f.same_parameter;
      same_range = f.same_range;
      degenerated = f.degenerated;
      reps = reps;
    })
payload_from (fields.Face s mesh) texts points reps =
    Face (record { natural = s.natural; tolerance = texts; surface = s.surface; location = s.location; mesh = mesh })
payload_from (fields.Nothing kind) texts points reps = Nothing

abbrev pub payload_of : Fields → HeadReader → Payload
payload_of f r = payload_from f r.texts.texts r.points.reps r.edges.reps

abbrev pub at_stage : Stage → HeadReader → List Token → Read Head
at_stage stages.Kind r ts = head_at r.bounds r.version ts
at_stage stages.VertexTexts r ts =
    then_flags Ve (decimals_left r.texts ts
    >>= λ texts. points_then texts.0 (points_at r.bounds (room_of r.bounds) texts.1))
at_stage stages.Points r ts = then_flags Ve (points_then r.texts.texts (points_left r.points ts))
at_stage stages.Tolerance r ts = then_flags Ed (edge_at r.bounds r.version ts)
at_stage stages.SameParameter r ts = then_flags Ed (from_same_parameter r.bounds r.version r.texts.texts ts)
at_stage (stages.SameRange p) r ts = then_flags Ed (from_same_range r.bounds r.version r.texts.texts p ts)
at_stage (stages.Degenerated p q) r ts = then_flags Ed (from_degenerated r.bounds r.version r.texts.texts p q ts)
at_stage (stages.EdgeReps f) r ts =
    then_flags Ed (reps_then r.texts.texts f.same_parameter f.same_range f.degenerated (edges_left r.edges ts))
at_stage stages.Natural r ts = then_flags Fa (face_at r.bounds ts)
at_stage (stages.FaceTolerance n) r ts = then_flags Fa (from_tolerance r.bounds n ts)
at_stage (stages.Surface n) r ts = then_flags Fa (from_surface n r.texts.texts r.bounds ts)
at_stage (stages.Location n s) r ts = then_flags Fa (from_location n r.texts.texts r.bounds s ts)
at_stage (stages.Mesh s) r ts =
    then_flags Fa (mesh_then s.natural r.texts.texts s.surface s.location (mesh_at r.bounds ts))
at_stage (stages.MeshNumber s) r ts =
    then_flags Fa (mesh_then s.natural r.texts.texts s.surface s.location (mesh_number r.bounds ts))
at_stage (stages.Flags d) r ts = flagged_at (kind_of d) (payload_of d r) ts
at_stage (stages.Whole d flags) r ts = Ok (record { kind = kind_of d; payload = payload_of d r; flags = flags }, ts)

-- What is left to read.
abbrev pub head_left : HeadReader → List Token → Read Head
head_left r ts = at_stage r.stage r ts

abbrev pub IsDue : Stage → HeadReader → Type 0
IsDue stages.VertexTexts r = 0 < r.texts.due
IsDue stages.Points r = points.IsWaiting r.points
IsDue (stages.EdgeReps f) r = edges.IsWaiting r.edges
IsDue (stages.Whole d flags) r = ⊥
IsDue stages.Kind r = Unit {0}
IsDue stages.Tolerance r = Unit {0}
IsDue stages.SameParameter r = Unit {0}
IsDue (stages.SameRange p) r = Unit {0}
IsDue (stages.Degenerated p q) r = Unit {0}
IsDue stages.Natural r = Unit {0}
IsDue (stages.FaceTolerance n) r = Unit {0}
IsDue (stages.Surface n) r = Unit {0}
IsDue (stages.Location n s) r = Unit {0}
IsDue (stages.Mesh s) r = Unit {0}
IsDue (stages.MeshNumber s) r = Unit {0}
IsDue (stages.Flags d) r = Unit {0}

-- No token was refused yet, and one is due.
abbrev pub IsWaiting : HeadReader → Type 0
IsWaiting r = IsDue r.stage r

abbrev pub IsWholeStage : Stage → Type 0
IsWholeStage (stages.Whole d flags) = Unit {0}
IsWholeStage _ = ⊥

-- The head is whole.
abbrev pub IsDone : HeadReader → Type 0
IsDone r = IsWholeStage r.stage

-- the data of this kind are left, and the flags
abbrev pub DataAreLeft : Kind → HeadReader → HeadReader → Type 0
DataAreLeft kind old new = (ts : List Token)
    → head_left new ts ≡ then_flags kind (payload_at old.bounds old.version kind ts)

-- a token was taken at this stage
abbrev pub TakesAt : Stage → HeadReader → Token → HeadReader → Result Progress ReadStop → Type 0
TakesAt stage old t new result = Takes (at_stage stage old) t (head_left new) (IsWaiting new) (IsDone new) result
