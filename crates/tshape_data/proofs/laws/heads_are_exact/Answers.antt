-- By the laws of forms, fields and names.
use Rattle.tshape_data.proofs.HeadLaws as laws
use Rattle.tshape_data.proofs.laws.heads_are_exact.Goals as goal

pub returns : goal.returns
returns c = laws.heads_are_exact c.forms_are_exact.ensures c.fields_are_exact.ensures c.signs_and_names_tell.ensures
