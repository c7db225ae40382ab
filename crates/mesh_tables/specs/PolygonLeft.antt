-- What the reader of a polygon in space has still to read.
use Rattle.std.specs.Prelude.{◌≡◌, ◌<◌, ℕ, List, Ok, Result}
use Rattle.brep_tokens.specs.declared.text.Token.{Token}
use Rattle.brep_tokens.specs.declared.fault.Progress.{Progress}
use Rattle.brep_tokens.specs.declared.fault.ReadStop.{ReadStop}
use Rattle.entry_readers.specs.Begins.{IsSmall}
use Rattle.entry_readers.specs.Left.{decimals_left}
use Rattle.entry_readers.specs.Takes.{Takes}
use Rattle.lists.specs.Results.{◌>>=◌}
use Rattle.entry_readers.specs.Reading.{Read, flag_at}
use Rattle.mesh_tables.specs.Meshes.{polygon_at, polygon_texts_at}
use Rattle.mesh_tables.specs.declared.entries.Polygon3.{Polygon3}
use Rattle.mesh_tables.specs.declared.polygon_reader.Polygon3Reader.{Polygon3Reader}
use Rattle.mesh_tables.specs.declared.polygon_reader.Stage.{Stage}
use Rattle.mesh_tables.specs.declared.polygon_reader.Stage.TheVariants as stages

abbrev pub at_stage : Stage → Polygon3Reader → List Token → Read Polygon3
at_stage stages.Nodes r ts = polygon_at ts
at_stage (stages.Params nodes) r ts = do
  params ← flag_at ts
  polygon_texts_at nodes params.0 params.1
at_stage (stages.Texts nodes params) r ts = do
  texts ← decimals_left r.texts ts
  Ok (record { nodes = nodes; params = params; texts = texts.0 }, texts.1)

-- What is left to read.
abbrev pub polygon_left : Polygon3Reader → List Token → Read Polygon3
polygon_left r ts = at_stage r.stage r ts

-- a count that was read has at most 18 digits
abbrev pub IsFit : Stage → Type 0
IsFit stages.Nodes = Unit {0}
IsFit (stages.Params nodes) = IsSmall nodes
IsFit (stages.Texts nodes params) = Unit {0}

-- a decimal is due where the stage says so
abbrev pub IsDue : Stage → ℕ → Type 0
IsDue stages.Nodes texts = Unit {0}
IsDue (stages.Params nodes) texts = Unit {0}
IsDue (stages.Texts nodes params) texts = 0 < texts

-- the last stage, and none is due
abbrev pub IsLast : Stage → ℕ → Type 0
IsLast stages.Nodes texts = ⊥
IsLast (stages.Params nodes) texts = ⊥
IsLast (stages.Texts nodes params) texts = texts ≡ 0

-- A token is due.
pub record PolygonWaits (r : Polygon3Reader) : Type 0 where
  pub fit : IsFit r.stage
  pub due : IsDue r.stage r.texts.due

-- The polygon is whole.
abbrev pub PolygonIsWhole : Polygon3Reader → Type 0
PolygonIsWhole r = IsLast r.stage r.texts.due

-- A reader of a polygon in space took a token: it waits for more, or the polygon is whole.
abbrev pub TakesPolygon : Polygon3Reader → Token → Polygon3Reader → Result Progress ReadStop → Type 0
TakesPolygon old t new result = Takes (polygon_left old) t (polygon_left new) (PolygonWaits new)
    (PolygonIsWhole new) result
