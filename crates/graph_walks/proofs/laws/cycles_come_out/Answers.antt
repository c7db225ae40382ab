-- One after another.
use Rattle.graph_walks.proofs.ExampleLemmas.{cycles}
use Rattle.graph_walks.proofs.laws.cycles_come_out.Goals as goal

pub returns : goal.returns
returns c = cycles
