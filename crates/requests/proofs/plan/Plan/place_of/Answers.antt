-- The place at which the number is found.
use Rattle.std.proofs.Common.{◌∙◌, ap}
use Rattle.requests.specs.Plans.{StepPlan, ids_of}
use Rattle.requests.proofs.PlanLaws.{found-at}
use Rattle.requests.proofs.plan.Plan.place_of.Goals as goal

pub returns-clause-some : goal.returns-clause-some
returns-clause-some c =
    found-at c.get_index_of.result c.args.id.0 c.self.inside.ids.keys (ids_of c.args.self.now.nodes) c.get_index_of.ensures.index
    (c.self.invariant ∙ ap (λ (pl : StepPlan). ids_of pl.nodes) c.self.view_is)
