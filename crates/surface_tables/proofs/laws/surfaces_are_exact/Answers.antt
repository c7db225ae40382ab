-- By the laws of fields and of curves.
use Rattle.surface_tables.proofs.FormLaws as forms
use Rattle.surface_tables.proofs.SurfaceLaws as surfaces
use Rattle.surface_tables.proofs.laws.surfaces_are_exact.Goals as goal

pub returns : goal.returns
returns c = record {
  surface = surfaces.exact c.fields_are_exact.ensures c.curves_are_exact.ensures;
  forms = λ s is. forms.forms c.fields_are_decimals.ensures c.curves_are_exact.ensures s 0 is;
  spells = λ s is short. forms.spells c.fields_are_decimals.ensures c.curves_are_exact.ensures s 0 is short;
}
