-- Signs and names tell turns and kinds.
use Rattle.orientation.proofs.Telling.{signs_and_names_tell as law}
use Rattle.orientation.proofs.laws.signs_and_names_tell.Goals as goal

pub returns : goal.returns
returns c = law
