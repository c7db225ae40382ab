-- The law, as it is proved in ChainLaws.
use Rattle.location_words.proofs.ChainLaws.{products_join as law}
use Rattle.location_words.proofs.laws.products_join.Goals as goal

pub returns : goal.returns
returns c = law
