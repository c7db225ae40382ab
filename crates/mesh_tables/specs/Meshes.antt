-- Reading polygons and meshes.
use Rattle.std.specs.Prelude.{ℕ, ◌*◌, ◌-◌, ◌^◌, Bool, List, [], ◌∷◌, Ok, codes}
use Rattle.brep_tokens.specs.declared.text.Token.{Token}
use Rattle.lists.specs.Results.{◌>>=◌}
use Rattle.entry_readers.specs.Reading.{Read, decimal_at, decimals_at, decimals_from, flag_at, number_at, numbers_at}
use Rattle.entry_readers.specs.Reading.{word_at}
use Rattle.mesh_tables.specs.Counts.{mesh_size, param_count, polygon_size}
use Rattle.mesh_tables.specs.declared.entries.Mesh.{Mesh}
use Rattle.mesh_tables.specs.declared.entries.Polygon3.{Polygon3}
use Rattle.mesh_tables.specs.declared.entries.PolygonOnMesh.{PolygonOnMesh}

-- ---- polygons in space

-- the decimals, after the number of nodes and the flag
abbrev pub polygon_texts_at : ℕ → Bool → List Token → Read Polygon3
polygon_texts_at nodes params ts = do
  texts ← decimals_at (polygon_size nodes params) ts
  Ok (record { nodes = nodes; params = params; texts = texts.0 }, texts.1)

-- The number of nodes, a flag, the decimals.
abbrev pub polygon_at : List Token → Read Polygon3
polygon_at ts = do
  nodes ← number_at ts
  params ← flag_at nodes.1
  polygon_texts_at nodes.0 params.0 params.1

-- ---- polygons on meshes

-- the greatest number that has a token
abbrev pub greatest : ℕ
greatest = 10 ^ 18 - 1

-- a flag and the parameters, after the deflection
abbrev pub params_at : ℕ → List ℕ → List (List ℕ) → List Token → Read PolygonOnMesh
params_at count nodes deflection ts = do
  params ← flag_at ts
  texts ← decimals_from deflection (param_count count params.0) params.1
  Ok (record { nodes = nodes; params = params.0; texts = texts.0 }, texts.1)

-- the word `p`, the deflection, a flag and the parameters, after the numbers of the nodes
abbrev pub word_p_at : ℕ → List ℕ → List Token → Read PolygonOnMesh
word_p_at count nodes ts = do
  p ← word_at (codes "p") ts
  deflection ← decimal_at p.1
  params_at count nodes (deflection.0 ∷ []) deflection.1

-- The number of nodes, any number for each, the word `p`, the deflection, a flag, the parameters.
abbrev pub polygon_on_at : List Token → Read PolygonOnMesh
polygon_on_at ts = do
  count ← number_at ts
  nodes ← numbers_at 0 greatest count.0 count.1
  word_p_at count.0 nodes.0 nodes.1

-- ---- meshes

-- the corners of the triangles, after all else
abbrev pub corners_at : ℕ → ℕ → Bool → List (List ℕ) → List Token → Read Mesh
corners_at nodes triangles uv texts ts = do
  corners ← numbers_at 1 nodes (3 * triangles) ts
  Ok (record { nodes = nodes; triangles = triangles; uv = uv; texts = texts; corners = corners.0 }, corners.1)

-- the decimals and the corners, after the counts and the flag
abbrev pub mesh_texts_at : ℕ → ℕ → Bool → List Token → Read Mesh
mesh_texts_at nodes triangles uv ts = do
  texts ← decimals_at (mesh_size nodes uv) ts
  corners_at nodes triangles uv texts.0 texts.1

-- The numbers of nodes and of triangles, a flag, the decimals, and for each triangle three numbers of nodes.
abbrev pub mesh_at : List Token → Read Mesh
mesh_at ts = do
  nodes ← number_at ts
  triangles ← number_at nodes.1
  uv ← flag_at triangles.1
  mesh_texts_at nodes.0 triangles.0 uv.0 uv.1
