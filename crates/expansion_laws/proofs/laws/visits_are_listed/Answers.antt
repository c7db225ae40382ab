-- Both ways, along the demands.
use Rattle.expansion_laws.proofs.ListedLemmas.{listed, led}
use Rattle.expansion_laws.proofs.laws.visits_are_listed.Goals as goal

pub returns : goal.returns
returns c = λ s x y here there. (λ l. listed s l, λ m. led s m.0 x y here there m.1)
