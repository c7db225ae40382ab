-- What the reader of a mesh has still to read.
use Rattle.std.specs.Prelude.{◌≡◌, ◌<◌, ℕ, Bool, MatchBool, List, Ok, Result}
use Rattle.brep_tokens.specs.declared.text.Token.{Token}
use Rattle.brep_tokens.specs.declared.fault.Progress.{Progress}
use Rattle.brep_tokens.specs.declared.fault.ReadStop.{ReadStop}
use Rattle.entry_readers.specs.Begins.{IsSmall}
use Rattle.entry_readers.specs.Left.{decimals_left, numbers_left}
use Rattle.entry_readers.specs.Takes.{Takes}
use Rattle.lists.specs.Results.{◌>>=◌}
use Rattle.entry_readers.specs.Reading.{Read, flag_at, number_at}
use Rattle.mesh_tables.specs.Meshes.{corners_at, mesh_at, mesh_texts_at}
use Rattle.mesh_tables.specs.declared.entries.Mesh.{Mesh}
use Rattle.mesh_tables.specs.declared.mesh_reader.MeshReader.{MeshReader}
use Rattle.mesh_tables.specs.declared.mesh_reader.Stage.{Stage}
use Rattle.mesh_tables.specs.declared.mesh_reader.Stage.TheVariants as stages

abbrev pub at_stage : Stage → MeshReader → List Token → Read Mesh
at_stage stages.Nodes r ts = mesh_at ts
at_stage (stages.Triangles nodes) r ts = do
  triangles ← number_at ts
  uv ← flag_at triangles.1
  mesh_texts_at nodes triangles.0 uv.0 uv.1
at_stage (stages.Uv nodes triangles) r ts = do
  uv ← flag_at ts
  mesh_texts_at nodes triangles uv.0 uv.1
at_stage (stages.Texts nodes triangles uv) r ts = do
  texts ← decimals_left r.texts ts
  corners_at nodes triangles uv texts.0 texts.1
at_stage (stages.Corners nodes triangles uv) r ts = do
  corners ← numbers_left r.corners ts
  Ok (record { nodes = nodes; triangles = triangles; uv = uv; texts = r.texts.texts; corners = corners.0 }, corners.1)

-- What is left to read.
abbrev pub mesh_left : MeshReader → List Token → Read Mesh
mesh_left r ts = at_stage r.stage r ts

-- the counts that were read have at most 18 digits
abbrev pub IsFit : Stage → Type 0
IsFit stages.Nodes = Unit {0}
IsFit (stages.Triangles nodes) = IsSmall nodes
IsFit (stages.Uv nodes triangles) = IsSmall nodes × IsSmall triangles
IsFit (stages.Texts nodes triangles uv) = IsSmall triangles
IsFit (stages.Corners nodes triangles uv) = Unit {0}

-- a decimal or a number is due where the stage says so
abbrev pub IsDue : Stage → ℕ → ℕ → Type 0
IsDue stages.Nodes texts corners = Unit {0}
IsDue (stages.Triangles nodes) texts corners = Unit {0}
IsDue (stages.Uv nodes triangles) texts corners = Unit {0}
IsDue (stages.Texts nodes triangles uv) texts corners = 0 < texts
IsDue (stages.Corners nodes triangles uv) texts corners = 0 < corners

-- the last stage, and none is due
abbrev pub IsLast : Stage → ℕ → Type 0
IsLast stages.Nodes corners = ⊥
IsLast (stages.Triangles nodes) corners = ⊥
IsLast (stages.Uv nodes triangles) corners = ⊥
IsLast (stages.Texts nodes triangles uv) corners = ⊥
IsLast (stages.Corners nodes triangles uv) corners = corners ≡ 0

-- A token is due.
pub record MeshWaits (r : MeshReader) : Type 0 where
  pub fit : IsFit r.stage
  pub due : IsDue r.stage r.texts.due r.corners.due

-- The mesh is whole.
abbrev pub MeshIsWhole : MeshReader → Type 0
MeshIsWhole r = IsLast r.stage r.corners.due

-- A reader of a mesh took a token: it waits for more, or the mesh is whole.
abbrev pub TakesMesh : MeshReader → Token → MeshReader → Result Progress ReadStop → Type 0
TakesMesh old t new result = Takes (mesh_left old) t (mesh_left new) (MeshWaits new) (MeshIsWhole new) result

-- whether the mesh is whole; where it isn't, a token is due
abbrev pub TellsWhole : Bool → MeshReader → Type 0
TellsWhole told r = MatchBool told (MeshIsWhole r) (IsDue r.stage r.texts.due r.corners.due)
