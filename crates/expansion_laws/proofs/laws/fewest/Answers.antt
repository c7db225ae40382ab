-- By its law.
use Rattle.expansion_laws.proofs.FewestLemmas.{no_file_has_fewer}
use Rattle.expansion_laws.proofs.laws.fewest.Goals as goal

pub returns : goal.returns
returns c = no_file_has_fewer
