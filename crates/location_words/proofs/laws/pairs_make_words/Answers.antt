-- The law, as it is proved in ChainLaws.
use Rattle.location_words.proofs.ChainLaws.{pairs_make_words as law}
use Rattle.location_words.proofs.laws.pairs_make_words.Goals as goal

pub returns : goal.returns
returns c = law
