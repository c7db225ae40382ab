-- The nodes at the places gone through.
use Rattle.std.proofs.Common.{◌≡◌, take, map}
use Rattle.requests.specs.Plans.{planned_at}
use Rattle.requests.specs.PlanView.{node_of}
use Rattle.requests.specs.Reached.{met_at}
use Rattle.requests.proofs.plan.plan_of.Given as goal

abbrev pub invariant-loop-p : goal.invariant-loop-p
invariant-loop-p l = record {
  ids : l.ids.keys ≡ map (met_at l.nodes.keys) (take l.p-index l.order);
  nodes : map node_of l.planned.items ≡ map (planned_at l.table.requests l.nodes.keys l.places l.turns) (take l.p-index l.order);
}
