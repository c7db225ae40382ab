-- What an iterator over the tokens of an entry has still to give.
use Rattle.std.specs.Prelude.{◌<◌, ℕ, List, ◌∷◌, ◌++◌, length, codes}
use Rattle.std.specs.Fmt.{decimal}
use Rattle.brep_tokens.specs.Forms.{flag_text}
use Rattle.entry_readers.specs.Spelled.{AreShort, header_left, numbers_left, texts_left}
use Rattle.mesh_tables.specs.Spelling.{with_flag}
use Rattle.mesh_tables.specs.declared.spell.MeshSpell.{MeshSpell}
use Rattle.mesh_tables.specs.declared.spell.Part.{Part}
use Rattle.mesh_tables.specs.declared.spell.Part.TheVariants as parts
use Rattle.mesh_tables.specs.declared.spell.Polygon3Spell.{Polygon3Spell}
use Rattle.mesh_tables.specs.declared.spell.PolygonOnMeshSpell.{PolygonOnMeshSpell}

-- ---- polygons in space

abbrev pub polygon_tokens_left : Polygon3Spell → List (List ℕ)
polygon_tokens_left s = header_left s.header ++ texts_left s.texts

abbrev pub CanGivePolygon : Polygon3Spell → Type 0
CanGivePolygon s = AreShort (texts_left s.texts)

-- ---- polygons on meshes

abbrev pub at_part : Part → PolygonOnMeshSpell → List (List ℕ)
at_part (parts.Count count) s =
    decimal count ∷ (numbers_left s.nodes ++ codes "p" ∷ with_flag s.params (texts_left s.texts))
at_part parts.Nodes s = numbers_left s.nodes ++ codes "p" ∷ with_flag s.params (texts_left s.texts)
at_part parts.Deflection s = with_flag s.params (texts_left s.texts)
at_part parts.Flag s = flag_text s.params ∷ texts_left s.texts
at_part parts.Params s = texts_left s.texts

abbrev pub polygon_on_tokens_left : PolygonOnMeshSpell → List (List ℕ)
polygon_on_tokens_left s = at_part s.part s

-- the deflection is among these decimals, where it was not given yet
abbrev pub HasDeflection : Part → List (List ℕ) → Type 0
HasDeflection (parts.Count count) texts = 0 < length texts
HasDeflection parts.Nodes texts = 0 < length texts
HasDeflection parts.Deflection texts = 0 < length texts
HasDeflection parts.Flag texts = Unit {0}
HasDeflection parts.Params texts = Unit {0}

pub record CanGivePolygonOn (s : PolygonOnMeshSpell) : Type 0 where
  pub short : AreShort (texts_left s.texts)
  pub deflection : HasDeflection s.part (texts_left s.texts)

-- ---- meshes

abbrev pub mesh_tokens_left : MeshSpell → List (List ℕ)
mesh_tokens_left s = header_left s.header ++ (texts_left s.texts ++ numbers_left s.corners)

abbrev pub CanGiveMesh : MeshSpell → Type 0
CanGiveMesh s = AreShort (texts_left s.texts)
