-- By the match of the visit.
use Rattle.expansion_laws.proofs.VisitLemmas.{demand-edge}
use Rattle.expansion_laws.proofs.laws.demands_are_edges.Goals as goal

pub returns : goal.returns
returns c = demand-edge
