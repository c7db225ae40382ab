-- By the words of datums.
use Rattle.location_table.proofs.WrittenLaws.{written_is_held}
use Rattle.location_table.proofs.laws.written_is_held.Goals as goal

pub returns : goal.returns
returns c = written_is_held c.words_are_a_group.ensures c.pairs_make_words.ensures c.limits_tell.ensures
