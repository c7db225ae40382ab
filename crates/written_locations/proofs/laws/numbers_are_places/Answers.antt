-- The law, as its lemmas prove it.
use Rattle.written_locations.proofs.Sections.{numbers_are_places}
use Rattle.written_locations.proofs.laws.numbers_are_places.Goals as goal

pub returns : goal.returns
returns c = numbers_are_places c.written_is_held.ensures
