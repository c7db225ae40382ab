-- A surface is read exactly as it is spelled.
use Rattle.std.specs.List.{AllByRecursion}
use Rattle.entry_readers.specs.Begins.{IsDecimal, IsExact}
use Rattle.entry_readers.specs.Spelled.{AreShort}
use Rattle.surface_tables.specs.Shapes.{CanSpellSurface}
use Rattle.surface_tables.specs.Sound.{IsSoundSurface}
use Rattle.surface_tables.specs.Spelling.{spell_surface}
use Rattle.surface_tables.specs.Surfaces.{surface_at}
use Rattle.surface_tables.specs.declared.surface.Surface.{Surface}

pub record SurfacesAreExact : Type 0 where
  -- what is read is spelled so and sound; what is spelled so and sound is read
  pub surface : IsExact surface_at spell_surface IsSoundSurface
  -- each text of a sound surface is a decimal
  pub forms : (s : Surface) → IsSoundSurface s → AllByRecursion IsDecimal (spell_surface s)
  -- a sound surface can be spelled where its texts fit tokens
  pub spells : (s : Surface) → IsSoundSurface s → AreShort (spell_surface s) → CanSpellSurface s
