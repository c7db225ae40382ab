use Rattle.brep_tokens.proofs.FormLaws as laws
use Rattle.brep_tokens.proofs.laws.forms_are_exact.Goals as goal

pub returns : goal.returns
returns c = laws.forms_are_exact
