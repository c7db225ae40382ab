-- Polygons and meshes are read exactly as they are spelled, and can be spelled.
use Rattle.std.specs.Prelude.{◌≡◌, ◌⊎◌, ℕ, List, codes}
use Rattle.std.specs.List.{AllByRecursion}
use Rattle.entry_readers.specs.Begins.{IsDecimal, IsExact}
use Rattle.entry_readers.specs.Spelled.{AreShort}
use Rattle.mesh_tables.specs.Meshes.{mesh_at, polygon_at, polygon_on_at}
use Rattle.mesh_tables.specs.Sound.{CanSpellMesh, CanSpellPolygon, CanSpellPolygonOn, IsSoundMesh, IsSoundPolygon}
use Rattle.mesh_tables.specs.Sound.{IsSoundPolygonOn}
use Rattle.mesh_tables.specs.Spelling.{spell_mesh, spell_polygon, spell_polygon_on}
use Rattle.mesh_tables.specs.declared.entries.Mesh.{Mesh}
use Rattle.mesh_tables.specs.declared.entries.Polygon3.{Polygon3}
use Rattle.mesh_tables.specs.declared.entries.PolygonOnMesh.{PolygonOnMesh}

-- a decimal, as numbers and flags are too, or the word `p`
abbrev pub IsDecimalOrP : List ℕ → Type 0
IsDecimalOrP text = IsDecimal text ⊎ (text ≡ codes "p")

pub record MeshesAreExact : Type 0 where
  pub polygon : IsExact polygon_at spell_polygon IsSoundPolygon
  pub polygon_on : IsExact polygon_on_at spell_polygon_on IsSoundPolygonOn
  pub mesh : IsExact mesh_at spell_mesh IsSoundMesh
  pub polygon_forms : (p : Polygon3) → IsSoundPolygon p → AllByRecursion IsDecimal (spell_polygon p)
  pub polygon_on_forms : (p : PolygonOnMesh) → IsSoundPolygonOn p → AllByRecursion IsDecimalOrP (spell_polygon_on p)
  pub mesh_forms : (m : Mesh) → IsSoundMesh m → AllByRecursion IsDecimal (spell_mesh m)

-- A sound entry whose tokens have at most 128 bytes can be spelled.
pub record MeshesCanBeSpelled : Type 0 where
  pub polygon : (p : Polygon3) → IsSoundPolygon p → AreShort (spell_polygon p) → CanSpellPolygon p
  pub polygon_on : (p : PolygonOnMesh) → IsSoundPolygonOn p → AreShort (spell_polygon_on p) → CanSpellPolygonOn p
  pub mesh : (m : Mesh) → IsSoundMesh m → AreShort (spell_mesh m) → CanSpellMesh m
