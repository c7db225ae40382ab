-- One after another.
use Rattle.graph_walks.proofs.ExampleLemmas.{ranks}
use Rattle.graph_walks.proofs.laws.ranks_come_out.Goals as goal

pub returns : goal.returns
returns c = ranks
