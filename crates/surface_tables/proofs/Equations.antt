-- What the definitions over surfaces say of a surface around a basis.
use Rattle.std.proofs.Common.{◌≡◌, ℕ, suc, List, ◌∷◌, ◌++◌, refl}
use Rattle.std.specs.Fmt.{decimal}
use Rattle.surface_tables.specs.Frames.{wrapped}
use Rattle.surface_tables.specs.Shapes.{CanSpellSurface, CanSpellWrapped}
use Rattle.surface_tables.specs.Sound.{IsSoundIn, IsWrapped}
use Rattle.surface_tables.specs.Spelling.{spell_surface}
use Rattle.surface_tables.specs.declared.parts.Wrap.{Wrap}
use Rattle.surface_tables.specs.declared.parts.Wrap.TheVariants.{Trimmed, Offset}
use Rattle.surface_tables.specs.declared.surface.Surface.{Surface, Trimmed', Offset', end_of-Surface, more_of-Surface}

abbrev pub wrap_code : Wrap → ℕ
wrap_code Trimmed = 10
wrap_code Offset = 11

module _ (texts : List (List ℕ)) (s : Surface) where
  pub spelling_around : (w : Wrap)
      → spell_surface (wrapped w texts s) ≡ decimal (wrap_code w) ∷ (texts ++ spell_surface s)
  unfolding Rattle.surface_tables.specs.declared.surface.Surface.TheBlock.hidden-the_row-Surface-0
      denote.Hole.Carrier.hidden
  spelling_around Trimmed = refl
  spelling_around Offset = refl

  pub can_spell_basis : (w : Wrap) → CanSpellSurface (wrapped w texts s) → CanSpellWrapped w texts × CanSpellSurface s
  unfolding Rattle.surface_tables.specs.declared.surface.Surface.TheBlock.hidden-the_row-Surface-0
      denote.Hole.Carrier.hidden
  can_spell_basis Trimmed can = can
  can_spell_basis Offset can = can

  pub can_spell_around : (w : Wrap) → CanSpellWrapped w texts → CanSpellSurface s → CanSpellSurface (wrapped w texts s)
  unfolding Rattle.surface_tables.specs.declared.surface.Surface.TheBlock.hidden-the_row-Surface-0
      denote.Hole.Carrier.hidden
  can_spell_around Trimmed wraps can = (wraps, can)
  can_spell_around Offset wraps can = (wraps, can)

  pub sound_around : (nest : ℕ) (w : Wrap) → IsWrapped nest w texts → IsSoundIn (suc nest) s
      → IsSoundIn nest (wrapped w texts s)
  unfolding Rattle.surface_tables.specs.declared.surface.Surface.TheBlock.hidden-the_row-Surface-0
      denote.Hole.Carrier.hidden
  sound_around nest Trimmed wraps is = (wraps, is)
  sound_around nest Offset wraps is = (wraps, is)

-- the row of one surface in which a basis stands is that surface

module _ (texts : List (List ℕ)) (place : _) (s : Surface) where
  pub is_trimmed : wrapped Trimmed texts s ≡ Trimmed' texts place (more_of-Surface s end_of-Surface)
  unfolding Rattle.surface_tables.specs.declared.surface.Surface.TheBlock.hidden-the_row-Surface-0
      denote.Hole.Carrier.hidden
  is_trimmed = refl

  pub is_offset : wrapped Offset texts s ≡ Offset' texts place (more_of-Surface s end_of-Surface)
  unfolding Rattle.surface_tables.specs.declared.surface.Surface.TheBlock.hidden-the_row-Surface-0
      denote.Hole.Carrier.hidden
  is_offset = refl
