-- What the reader of a polygon on a mesh has still to read.
use Rattle.std.specs.Prelude.{◌≡◌, ◌<◌, ℕ, List, [], ◌∷◌, Ok, Result}
use Rattle.brep_tokens.specs.declared.text.Token.{Token}
use Rattle.brep_tokens.specs.declared.fault.Progress.{Progress}
use Rattle.brep_tokens.specs.declared.fault.ReadStop.{ReadStop}
use Rattle.entry_readers.specs.Left.{decimals_left, numbers_left}
use Rattle.entry_readers.specs.Takes.{Takes}
use Rattle.lists.specs.Results.{◌>>=◌}
use Rattle.entry_readers.specs.Reading.{Read, decimal_at}
use Rattle.mesh_tables.specs.Meshes.{params_at, polygon_on_at, word_p_at}
use Rattle.mesh_tables.specs.declared.entries.PolygonOnMesh.{PolygonOnMesh}
use Rattle.mesh_tables.specs.declared.polygon_on_reader.PolygonOnMeshReader.{PolygonOnMeshReader}
use Rattle.mesh_tables.specs.declared.polygon_on_reader.Stage.{Stage}
use Rattle.mesh_tables.specs.declared.polygon_on_reader.Stage.TheVariants as stages

abbrev pub at_stage : Stage → PolygonOnMeshReader → List Token → Read PolygonOnMesh
at_stage stages.Count r ts = polygon_on_at ts
at_stage (stages.Nodes count) r ts = do
  nodes ← numbers_left r.nodes ts
  word_p_at count nodes.0 nodes.1
at_stage (stages.WordP count) r ts = word_p_at count r.nodes.numbers ts
at_stage (stages.Deflection count) r ts = do
  deflection ← decimal_at ts
  params_at count r.nodes.numbers (deflection.0 ∷ []) deflection.1
at_stage (stages.Params count) r ts = params_at count r.nodes.numbers r.texts.texts ts
at_stage (stages.Texts params) r ts = do
  texts ← decimals_left r.texts ts
  Ok (record { nodes = r.nodes.numbers; params = params; texts = texts.0 }, texts.1)

-- What is left to read.
abbrev pub polygon_on_left : PolygonOnMeshReader → List Token → Read PolygonOnMesh
polygon_on_left r ts = at_stage r.stage r ts

-- a number or a decimal is due where the stage says so
abbrev pub IsDue : Stage → ℕ → ℕ → Type 0
IsDue stages.Count nodes texts = Unit {0}
IsDue (stages.Nodes count) nodes texts = 0 < nodes
IsDue (stages.WordP count) nodes texts = Unit {0}
IsDue (stages.Deflection count) nodes texts = Unit {0}
IsDue (stages.Params count) nodes texts = Unit {0}
IsDue (stages.Texts params) nodes texts = 0 < texts

-- the last stage, and none is due
abbrev pub IsLast : Stage → ℕ → Type 0
IsLast stages.Count texts = ⊥
IsLast (stages.Nodes count) texts = ⊥
IsLast (stages.WordP count) texts = ⊥
IsLast (stages.Deflection count) texts = ⊥
IsLast (stages.Params count) texts = ⊥
IsLast (stages.Texts params) texts = texts ≡ 0

-- A token is due.
abbrev pub PolygonOnWaits : PolygonOnMeshReader → Type 0
PolygonOnWaits r = IsDue r.stage r.nodes.due r.texts.due

-- The polygon is whole.
abbrev pub PolygonOnIsWhole : PolygonOnMeshReader → Type 0
PolygonOnIsWhole r = IsLast r.stage r.texts.due

-- A reader of a polygon on a mesh took a token: it waits for more, or the polygon is whole.
abbrev pub TakesPolygonOn : PolygonOnMeshReader → Token → PolygonOnMeshReader → Result Progress ReadStop → Type 0
TakesPolygonOn old t new result = Takes (polygon_on_left old) t (polygon_on_left new) (PolygonOnWaits new)
    (PolygonOnIsWhole new) result
