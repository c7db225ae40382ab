-- By the laws of forms, fields and names.
use Rattle.tshape_data.proofs.TellLaws as laws
use Rattle.tshape_data.proofs.laws.heads_tell.Goals as goal

pub returns : goal.returns
returns c = laws.heads_tell c.forms_are_exact.ensures c.fields_are_exact.ensures c.signs_and_names_tell.ensures
