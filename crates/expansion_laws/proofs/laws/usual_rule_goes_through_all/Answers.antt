-- By the order of kinds.
use Rattle.expansion_laws.proofs.UsualLemmas.{usual-goes-through}
use Rattle.expansion_laws.proofs.laws.usual_rule_goes_through_all.Goals as goal

pub returns : goal.returns
returns c = usual-goes-through
