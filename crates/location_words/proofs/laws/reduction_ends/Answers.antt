-- The law, as it is proved in ChainLaws.
use Rattle.location_words.proofs.ChainLaws.{reduction_ends as law}
use Rattle.location_words.proofs.laws.reduction_ends.Goals as goal

pub returns : goal.returns
returns c = law
