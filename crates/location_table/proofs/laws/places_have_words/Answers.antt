-- By the group of words.
use Rattle.location_table.proofs.PlaceLaws.{places_have_words}
use Rattle.location_table.proofs.laws.places_have_words.Goals as goal

pub returns : goal.returns
returns c = places_have_words c.words_are_a_group.ensures c.limits_tell.ensures
