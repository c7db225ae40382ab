-- Which entries have a spelling that is read.
use Rattle.std.specs.Prelude.{◌≡◌, ◌≤◌, ◌*◌, ℕ, length}
use Rattle.std.specs.List.{AllByRecursion}
use Rattle.entry_readers.specs.Begins.{IsDecimal, IsSmall}
use Rattle.entry_readers.specs.Spelled.{AreShort}
use Rattle.mesh_tables.specs.Counts.{mesh_size, polygon_on_size, polygon_size}
use Rattle.mesh_tables.specs.declared.entries.Mesh.{Mesh}
use Rattle.mesh_tables.specs.declared.entries.Polygon3.{Polygon3}
use Rattle.mesh_tables.specs.declared.entries.PolygonOnMesh.{PolygonOnMesh}

-- ---- well shaped: each list has the length that follows from the counts and the flags

abbrev pub IsShapedPolygon : Polygon3 → Type 0
IsShapedPolygon p = length p.texts ≡ polygon_size p.nodes p.params

abbrev pub IsShapedPolygonOn : PolygonOnMesh → Type 0
IsShapedPolygonOn p = length p.texts ≡ polygon_on_size (length p.nodes) p.params

abbrev pub IsShapedMesh : Mesh → Type 0
IsShapedMesh m = (length m.texts ≡ mesh_size m.nodes m.uv) × (length m.corners ≡ 3 * m.triangles)

-- ---- sound: well shaped, and each token has its form and is in its range

pub record IsSoundPolygon (p : Polygon3) : Type 0 where
  pub shape : IsShapedPolygon p
  pub nodes : IsSmall p.nodes
  pub texts : AllByRecursion IsDecimal p.texts

pub record IsSoundPolygonOn (p : PolygonOnMesh) : Type 0 where
  pub shape : IsShapedPolygonOn p
  pub count : IsSmall (length p.nodes)
  pub nodes : AllByRecursion IsSmall p.nodes
  pub texts : AllByRecursion IsDecimal p.texts

-- the number of a node
abbrev pub IsNode : ℕ → ℕ → Type 0
IsNode nodes n = (1 ≤ n) × (n ≤ nodes)

pub record IsSoundMesh (m : Mesh) : Type 0 where
  pub shape : IsShapedMesh m
  pub nodes : IsSmall m.nodes
  pub triangles : IsSmall m.triangles
  pub texts : AllByRecursion IsDecimal m.texts
  pub corners : AllByRecursion (IsNode m.nodes) m.corners

-- ---- can be spelled: well shaped, and each decimal fits a token

pub record CanSpellPolygon (p : Polygon3) : Type 0 where
  pub shape : IsShapedPolygon p
  pub short : AreShort p.texts

pub record CanSpellPolygonOn (p : PolygonOnMesh) : Type 0 where
  pub shape : IsShapedPolygonOn p
  pub short : AreShort p.texts

pub record CanSpellMesh (m : Mesh) : Type 0 where
  pub shape : IsShapedMesh m
  pub short : AreShort m.texts
