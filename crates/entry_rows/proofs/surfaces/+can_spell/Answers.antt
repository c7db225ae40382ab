-- A surface around a basis.
use Rattle.std.proofs.Common.{refl, sym, subst}
use Rattle.surface_tables.specs.Shapes.{CanSpellSurface}
use Rattle.surface_tables.specs.declared.parts.Wrap.TheVariants.{Trimmed, Offset}
use Rattle.entry_rows.proofs.AroundSurface.{can_spell_around}
use Rattle.entry_rows.proofs.surfaces.+can_spell.Goals as goal

pub returns-then-texts-5 : goal.returns-then-texts-5
returns-then-texts-5 t c shown =
    subst CanSpellSurface (sym c.in-Trimmed.is)
    (can_spell_around c.in-Trimmed.all c.in-Trimmed.basis Trimmed (c.if-texts-5.ensures refl) (subst CanSpellSurface c.get.ensures (c.can_spell.ensures shown)))

pub returns-then-texts-6 : goal.returns-then-texts-6
returns-then-texts-6 t c shown =
    subst CanSpellSurface (sym c.in-Offset.is)
    (can_spell_around c.in-Offset.all c.in-Offset.basis Offset (c.if-texts-6.ensures refl) (subst CanSpellSurface c.get-then-texts-6.ensures (c.can_spell-then-texts-6.ensures shown)))
