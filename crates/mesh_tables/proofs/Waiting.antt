-- Where a token is due, nothing is read from no tokens.
use Rattle.std.proofs.Common.{◌≡◌, ℕ, zero, suc, ◌<◌, List, [], Err, refl, arith}
use Rattle.entry_readers.specs.Reading.{more, decimals_from, numbers_from}
use Rattle.mesh_tables.specs.MeshLeft as mesh
use Rattle.mesh_tables.specs.PolygonLeft as polygon
use Rattle.mesh_tables.specs.PolygonOnLeft as polygon_on
use Rattle.mesh_tables.specs.declared.mesh_reader.MeshReader.{MeshReader}
use Rattle.mesh_tables.specs.declared.mesh_reader.Stage as mesh_reader
use Rattle.mesh_tables.specs.declared.mesh_reader.Stage.TheVariants as mesh_stages
use Rattle.mesh_tables.specs.declared.polygon_on_reader.PolygonOnMeshReader.{PolygonOnMeshReader}
use Rattle.mesh_tables.specs.declared.polygon_on_reader.Stage as polygon_on_reader
use Rattle.mesh_tables.specs.declared.polygon_on_reader.Stage.TheVariants as polygon_on_stages
use Rattle.mesh_tables.specs.declared.polygon_reader.Polygon3Reader.{Polygon3Reader}
use Rattle.mesh_tables.specs.declared.polygon_reader.Stage as polygon_reader
use Rattle.mesh_tables.specs.declared.polygon_reader.Stage.TheVariants as polygon_stages

no_texts : (texts : List (List ℕ)) (n : ℕ) → 0 < n → decimals_from texts n [] ≡ Err more
no_texts texts zero lt = absurd (omega (arith, lt))
no_texts texts (suc n) lt = refl

no_numbers : (low high : ℕ) (numbers : List ℕ) (n : ℕ) → 0 < n → numbers_from low high numbers n [] ≡ Err more
no_numbers low high numbers zero lt = absurd (omega (arith, lt))
no_numbers low high numbers (suc n) lt = refl

polygon_at_stage : (s : polygon_reader.Stage) (r : Polygon3Reader) → polygon.IsDue s r.texts.due
    → polygon.at_stage s r [] ≡ Err more
polygon_at_stage polygon_stages.Nodes r due = refl
polygon_at_stage (polygon_stages.Params nodes) r due = refl
polygon_at_stage (polygon_stages.Texts nodes params) r due = rw (no_texts r.texts.texts r.texts.due due) refl

pub polygon_opens : (r : Polygon3Reader) → polygon.IsDue r.stage r.texts.due → polygon.polygon_left r [] ≡ Err more
polygon_opens r due = polygon_at_stage r.stage r due

polygon_on_at_stage : (s : polygon_on_reader.Stage) (r : PolygonOnMeshReader)
    → polygon_on.IsDue s r.nodes.due r.texts.due → polygon_on.at_stage s r [] ≡ Err more
polygon_on_at_stage polygon_on_stages.Count r due = refl
polygon_on_at_stage (polygon_on_stages.Nodes count) r due =
    rw (no_numbers r.nodes.low r.nodes.high r.nodes.numbers r.nodes.due due) refl
polygon_on_at_stage (polygon_on_stages.WordP count) r due = refl
polygon_on_at_stage (polygon_on_stages.Deflection count) r due = refl
polygon_on_at_stage (polygon_on_stages.Params count) r due = refl
polygon_on_at_stage (polygon_on_stages.Texts params) r due = rw (no_texts r.texts.texts r.texts.due due) refl

pub polygon_on_opens : (r : PolygonOnMeshReader) → polygon_on.PolygonOnWaits r
    → polygon_on.polygon_on_left r [] ≡ Err more
polygon_on_opens r due = polygon_on_at_stage r.stage r due

mesh_at_stage : (s : mesh_reader.Stage) (r : MeshReader) → mesh.IsDue s r.texts.due r.corners.due
    → mesh.at_stage s r [] ≡ Err more
mesh_at_stage mesh_stages.Nodes r due = refl
mesh_at_stage (mesh_stages.Triangles nodes) r due = refl
mesh_at_stage (mesh_stages.Uv nodes triangles) r due = refl
mesh_at_stage (mesh_stages.Texts nodes triangles uv) r due = rw (no_texts r.texts.texts r.texts.due due) refl
mesh_at_stage (mesh_stages.Corners nodes triangles uv) r due =
    rw (no_numbers r.corners.low r.corners.high r.corners.numbers r.corners.due due) refl

pub mesh_opens : (r : MeshReader) → mesh.IsDue r.stage r.texts.due r.corners.due → mesh.mesh_left r [] ≡ Err more
mesh_opens r due = mesh_at_stage r.stage r due
