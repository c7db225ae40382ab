-- The first node of an origin tells its kind.
use Rattle.explorer.proofs.KindLaws.{kinds_are_there}
use Rattle.explorer.proofs.laws.kinds_are_there.Goals as goal

pub returns : goal.returns
returns c = kinds_are_there
