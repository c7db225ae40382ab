-- A 2D curve can be spelled around one that can.
use Rattle.std.proofs.Common.{ℕ, List}
use Rattle.curve_tables.specs.Curves.{wrapped2}
use Rattle.curve_tables.specs.Shapes.{CanSpell2, CanSpellWrapped}
use Rattle.curve_tables.specs.declared.curve2.Curve2.{Curve2}
use Rattle.curve_tables.specs.declared.parts.Dimension.TheVariants.{Plane}
use Rattle.curve_tables.specs.declared.parts.Wrap.{Wrap}
use Rattle.curve_tables.specs.declared.parts.Wrap.TheVariants.{Trimmed, Offset}

pub can_spell_around : (texts : List (List ℕ)) (basis : Curve2) (w : Wrap) → CanSpellWrapped Plane w texts → CanSpell2 basis → CanSpell2 (wrapped2 w texts basis)
unfolding Rattle.curve_tables.specs.declared.curve2.Curve2.TheBlock.hidden-the_row-Curve2-0 denote.Hole.Carrier.hidden
can_spell_around texts basis Trimmed wraps can = (wraps, can)
can_spell_around texts basis Offset wraps can = (wraps, can)
