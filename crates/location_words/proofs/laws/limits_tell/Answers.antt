-- The law, as it is proved in FaultLemmas.
use Rattle.location_words.proofs.FaultLemmas.{limits_tell as law}
use Rattle.location_words.proofs.laws.limits_tell.Goals as goal

pub returns : goal.returns
returns c = law
