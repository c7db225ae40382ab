-- The laws of turns.
use Rattle.orientation.proofs.TurnLaws.{turns_compose as law}
use Rattle.orientation.proofs.laws.turns_compose.Goals as goal

pub returns : goal.returns
returns c = law
