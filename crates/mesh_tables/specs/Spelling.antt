-- The tokens that spell an entry.
use Rattle.std.specs.Prelude.{ℕ, Bool, List, [], ◌∷◌, ◌++◌, length, codes}
use Rattle.std.specs.Fmt.{decimal}
use Rattle.brep_tokens.specs.Forms.{flag_text}
use Rattle.entry_readers.specs.Begins.{spell_numbers}
use Rattle.mesh_tables.specs.declared.entries.Mesh.{Mesh}
use Rattle.mesh_tables.specs.declared.entries.Polygon3.{Polygon3}
use Rattle.mesh_tables.specs.declared.entries.PolygonOnMesh.{PolygonOnMesh}

abbrev pub spell_polygon : Polygon3 → List (List ℕ)
spell_polygon p = decimal p.nodes ∷ flag_text p.params ∷ p.texts

-- the flag stands after the first of the decimals, the deflection
abbrev pub with_flag : Bool → List (List ℕ) → List (List ℕ)
with_flag params [] = flag_text params ∷ []
with_flag params (deflection ∷ texts) = deflection ∷ flag_text params ∷ texts

abbrev pub spell_polygon_on : PolygonOnMesh → List (List ℕ)
spell_polygon_on p = decimal (length p.nodes) ∷ (spell_numbers p.nodes ++ codes "p" ∷ with_flag p.params p.texts)

abbrev pub spell_mesh : Mesh → List (List ℕ)
spell_mesh m = decimal m.nodes ∷ decimal m.triangles ∷ flag_text m.uv ∷ (m.texts ++ spell_numbers m.corners)
