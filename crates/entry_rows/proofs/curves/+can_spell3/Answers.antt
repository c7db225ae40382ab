-- A curve around a basis.
use Rattle.std.proofs.Common.{refl, sym, subst}
use Rattle.curve_tables.specs.Shapes.{CanSpell3}
use Rattle.curve_tables.specs.declared.parts.Wrap.TheVariants.{Trimmed, Offset}
use Rattle.entry_rows.proofs.Around3.{can_spell_around}
use Rattle.entry_rows.proofs.curves.+can_spell3.Goals as goal

pub returns-then-texts-2 : goal.returns-then-texts-2
returns-then-texts-2 t c shown =
    subst CanSpell3 (sym c.in-Trimmed.is) (can_spell_around c.in-Trimmed.all c.in-Trimmed.basis Trimmed (c.if-texts-2.ensures refl) (subst CanSpell3 c.get.ensures (c.can_spell3.ensures shown)))

pub returns-then-texts-3 : goal.returns-then-texts-3
returns-then-texts-3 t c shown =
    subst CanSpell3 (sym c.in-Offset.is)
    (can_spell_around c.in-Offset.all c.in-Offset.basis Offset (c.if-texts-3.ensures refl) (subst CanSpell3 c.get-then-texts-3.ensures (c.can_spell3-then-texts-3.ensures shown)))
