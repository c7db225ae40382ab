use Rattle.explorer.proofs.WalkLaws.{walk_is_entered}
use Rattle.explorer.proofs.laws.walk_is_entered.Goals as goal

pub returns : goal.returns
returns c = walk_is_entered
