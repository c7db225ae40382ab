-- By the forms of tokens.
use Rattle.entry_readers.proofs.FieldLaws.{fields_are_exact}
use Rattle.entry_readers.proofs.laws.fields_are_exact.Goals as goal

pub returns : goal.returns
returns c = fields_are_exact c.forms_are_exact.ensures
