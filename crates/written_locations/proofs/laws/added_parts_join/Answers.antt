-- The law, as its lemmas prove it.
use Rattle.written_locations.proofs.Adding.{adds-all, adds-more, adds-more_words, adds-none}
use Rattle.written_locations.proofs.laws.added_parts_join.Goals as goal

pub returns : goal.returns
returns c = record { none = adds-none; all_joined = adds-all; joined = adds-more; words_joined = adds-more_words }
