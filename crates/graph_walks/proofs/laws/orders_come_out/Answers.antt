-- One after another.
use Rattle.graph_walks.proofs.ExampleLemmas.{orders}
use Rattle.graph_walks.proofs.laws.orders_come_out.Goals as goal

pub returns : goal.returns
returns c = orders
