-- A visit and its key's context agree on all that the tree reaches.
use Rattle.expansion_laws.proofs.KeyVisitLemmas.{keys_stand}
use Rattle.expansion_laws.proofs.laws.keys_stand_for_visits.Goals as goal

pub returns : goal.returns
returns c = keys_stand
