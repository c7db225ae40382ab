-- The law, as it is proved in ChainLaws.
use Rattle.location_words.proofs.ChainLaws.{words_are_a_group as law}
use Rattle.location_words.proofs.laws.words_are_a_group.Goals as goal

pub returns : goal.returns
returns c = law
