-- A 3D curve can be spelled around one that can.
use Rattle.std.proofs.Common.{ℕ, List}
use Rattle.curve_tables.specs.Curves.{wrapped3}
use Rattle.curve_tables.specs.Shapes.{CanSpell3, CanSpellWrapped}
use Rattle.curve_tables.specs.declared.curve3.Curve3.{Curve3}
use Rattle.curve_tables.specs.declared.parts.Dimension.TheVariants.{Space}
use Rattle.curve_tables.specs.declared.parts.Wrap.{Wrap}
use Rattle.curve_tables.specs.declared.parts.Wrap.TheVariants.{Trimmed, Offset}

pub can_spell_around : (texts : List (List ℕ)) (basis : Curve3) (w : Wrap) → CanSpellWrapped Space w texts → CanSpell3 basis → CanSpell3 (wrapped3 w texts basis)
unfolding Rattle.curve_tables.specs.declared.curve3.Curve3.TheBlock.hidden-the_row-Curve3-0 denote.Hole.Carrier.hidden
can_spell_around texts basis Trimmed wraps can = (wraps, can)
can_spell_around texts basis Offset wraps can = (wraps, can)
