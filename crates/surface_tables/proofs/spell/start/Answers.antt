-- A basis is boxed.
use Rattle.std.proofs.Common.{◌∷◌, ◌++◌, ap, sym, ◌∙◌}
use Rattle.std.specs.Fmt.{decimal}
use Rattle.surface_tables.specs.Spelling.{spell_surface}
use Rattle.surface_tables.specs.declared.parts.Wrap.TheVariants.{Trimmed, Offset}
use Rattle.surface_tables.proofs.Equations.{can_spell_basis, spelling_around}
use Rattle.surface_tables.proofs.spell.start.Goals as goal

pub returns-in-Trimmed-clause-left : goal.returns-in-Trimmed-clause-left
returns-in-Trimmed-clause-left c =
    ap (λ z. z ++ spell_surface c.get.result.now) c.coded.ensures.left
    ∙ ap (λ b. decimal 10 ∷ (c.in-Trimmed.texts ++ spell_surface b)) c.get.ensures
    ∙ sym (spelling_around c.in-Trimmed.texts c.in-Trimmed.basis Trimmed) ∙ ap spell_surface (sym c.in-Trimmed.is)

pub returns-in-Trimmed-clause-can : goal.returns-in-Trimmed-clause-can
returns-in-Trimmed-clause-can c = record {
  part_can = c.coded.ensures.can;
  basis_can = rw c.get.ensures (can_spell_basis c.in-Trimmed.texts c.in-Trimmed.basis Trimmed
      (rw c.in-Trimmed.is at c.requires)).1;
}

pub returns-in-Offset-clause-left : goal.returns-in-Offset-clause-left
returns-in-Offset-clause-left c =
    ap (λ z. z ++ spell_surface c.get-in-Offset.result.now) c.coded-in-Offset.ensures.left
    ∙ ap (λ b. decimal 11 ∷ (c.in-Offset.texts ++ spell_surface b)) c.get-in-Offset.ensures
    ∙ sym (spelling_around c.in-Offset.texts c.in-Offset.basis Offset) ∙ ap spell_surface (sym c.in-Offset.is)

pub returns-in-Offset-clause-can : goal.returns-in-Offset-clause-can
returns-in-Offset-clause-can c = record {
  part_can = c.coded-in-Offset.ensures.can;
  basis_can = rw c.get-in-Offset.ensures (can_spell_basis c.in-Offset.texts c.in-Offset.basis Offset
      (rw c.in-Offset.is at c.requires)).1;
}
