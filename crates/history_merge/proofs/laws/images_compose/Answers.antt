-- By the members.
use Rattle.history_merge.proofs.ComposeLaws.{images-compose}
use Rattle.history_merge.proofs.laws.images_compose.Goals as goal

pub returns : goal.returns
returns c = images-compose
