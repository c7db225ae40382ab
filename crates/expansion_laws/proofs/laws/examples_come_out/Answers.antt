-- By computation.
use Rattle.expansion_laws.proofs.ExampleLemmas.{examples_come_out as law}
use Rattle.expansion_laws.proofs.laws.examples_come_out.Goals as goal

pub returns : goal.returns
returns c = law
