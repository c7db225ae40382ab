-- By the forms of tokens, of fields and of what is written.
use Rattle.location_table.proofs.ReadLaws.{locations_are_exact}
use Rattle.location_table.proofs.laws.locations_are_exact.Goals as goal

pub returns : goal.returns
returns c = locations_are_exact c.forms_are_exact.ensures c.fields_are_exact.ensures c.written_is_read.ensures
