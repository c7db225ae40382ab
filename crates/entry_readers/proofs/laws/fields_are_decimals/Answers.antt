-- By the forms of tokens.
use Rattle.entry_readers.proofs.FieldForms.{fields_are_decimals}
use Rattle.entry_readers.proofs.laws.fields_are_decimals.Goals as goal

pub returns : goal.returns
returns c = fields_are_decimals c.forms_are_exact.ensures
