-- The nodes of a plan as it holds them.
use Rattle.requests.specs.declared.plan.Planned.{Planned}
use Rattle.requests.specs.Plans.{PlannedNode}

abbrev pub node_of : Planned → PlannedNode
node_of p = record { id = p.id; live = p.live.items; place = p.place; turn = p.turn }
