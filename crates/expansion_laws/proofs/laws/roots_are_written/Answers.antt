-- By its law.
use Rattle.expansion_laws.proofs.WrittenLemmas.{flat-written}
use Rattle.expansion_laws.proofs.laws.roots_are_written.Goals as goal

pub returns : goal.returns
returns c = flat-written
