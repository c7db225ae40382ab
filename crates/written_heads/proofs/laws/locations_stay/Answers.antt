-- The law, as its lemma proves it.
use Rattle.written_heads.proofs.LocationLemmas.{locations-stay}
use Rattle.written_heads.proofs.laws.locations_stay.Goals as goal

pub returns : goal.returns
returns c = locations-stay
