-- A surface can be spelled around one that can.
use Rattle.std.proofs.Common.{ℕ, List}
use Rattle.surface_tables.specs.Frames.{wrapped}
use Rattle.surface_tables.specs.Shapes.{CanSpellSurface, CanSpellWrapped}
use Rattle.surface_tables.specs.declared.surface.Surface.{Surface}
use Rattle.surface_tables.specs.declared.parts.Wrap.{Wrap}
use Rattle.surface_tables.specs.declared.parts.Wrap.TheVariants.{Trimmed, Offset}

pub can_spell_around : (texts : List (List ℕ)) (basis : Surface) (w : Wrap) → CanSpellWrapped w texts → CanSpellSurface basis → CanSpellSurface (wrapped w texts basis)
unfolding Rattle.surface_tables.specs.declared.surface.Surface.TheBlock.hidden-the_row-Surface-0 denote.Hole.Carrier.hidden
can_spell_around texts basis Trimmed wraps can = (wraps, can)
can_spell_around texts basis Offset wraps can = (wraps, can)
