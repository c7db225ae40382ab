-- The law, as it is proved in ChainLaws.
use Rattle.location_words.proofs.ChainLaws.{test_tells as law}
use Rattle.location_words.proofs.laws.test_tells.Goals as goal

pub returns : goal.returns
returns c = law
