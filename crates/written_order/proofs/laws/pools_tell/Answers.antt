use Rattle.written_order.proofs.Trees.{pools-tell}
use Rattle.written_order.proofs.laws.pools_tell.Goals as goal

pub returns : goal.returns
returns c = pools-tell
