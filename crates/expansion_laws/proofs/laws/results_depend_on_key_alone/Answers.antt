-- Over the levels of the derivation.
use Rattle.expansion_laws.proofs.KeyLemmas.{results_depend_on_key_alone as law}
use Rattle.expansion_laws.proofs.laws.results_depend_on_key_alone.Goals as goal

pub returns : goal.returns
returns c = law
