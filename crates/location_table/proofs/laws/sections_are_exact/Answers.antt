-- Entry by entry.
use Rattle.location_table.proofs.SectionLaws.{sections_are_exact}
use Rattle.location_table.proofs.laws.sections_are_exact.Goals as goal

pub returns : goal.returns
returns c = sections_are_exact c.fields_are_exact.ensures c.locations_are_exact.ensures
