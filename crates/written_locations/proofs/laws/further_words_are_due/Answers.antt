-- The law, as its lemmas prove it.
use Rattle.written_locations.proofs.Words.{further-distinct, further-few, further-found, further-from}
use Rattle.written_locations.proofs.laws.further_words_are_due.Goals as goal

pub returns : goal.returns
returns c = record { found = further-found; from = further-from; distinct = further-distinct; few = further-few }
