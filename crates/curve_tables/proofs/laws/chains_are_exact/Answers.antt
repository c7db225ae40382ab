use Rattle.curve_tables.proofs.ChainBack as laws
use Rattle.curve_tables.proofs.laws.chains_are_exact.Goals as goal

pub returns : goal.returns
returns c = laws.chains_are_exact c.fields_are_exact.ensures
