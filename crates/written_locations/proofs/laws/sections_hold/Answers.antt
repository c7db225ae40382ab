-- The law, as its lemmas prove it.
use Rattle.written_locations.proofs.Adding.{datums-few, word-member}
use Rattle.written_locations.proofs.Sections.{datums-sound}
use Rattle.written_locations.proofs.laws.sections_hold.Goals as goal

pub returns : goal.returns
returns c = record { few_datums = datums-few; datums = datums-sound; word = word-member }
