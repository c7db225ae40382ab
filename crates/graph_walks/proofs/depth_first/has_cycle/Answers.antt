-- What is found tells whether there is a cycle.
use Rattle.std.proofs.Common.{refl, subst, reverse}
use Rattle.lists.proofs.Members.{Contains-reverse}
use Rattle.graph_walks.specs.Graph.{ends_of}
use Rattle.graph_walks.specs.Search.{IsFound}
use Rattle.graph_walks.specs.declared.depth_first.Found.TheVariants.{Cycle, Order}
use Rattle.graph_walks.specs.Walks.{itself}
use Rattle.graph_walks.proofs.WalkLaws.{first_is_cycle, no_cycle}
use Rattle.graph_walks.proofs.depth_first.has_cycle.Goals as goal

pub returns-in-Cycle : goal.returns-in-Cycle
returns-in-Cycle c =
    let found : IsFound c.args.graph.now c.args.root (Cycle c.in-Cycle.field-0) =
    subst (IsFound c.args.graph.now c.args.root) c.in-Cycle.is c.in_ok-search.ensures in
    (λ t. first_is_cycle (ends_of c.args.graph.now) c.args.root c.in-Cycle.field-0.items found.first, λ h. refl)

pub returns : goal.returns
returns c =
    let found : IsFound c.args.graph.now c.args.root (Order c.in-Order.field-0) =
    subst (IsFound c.args.graph.now c.args.root) c.in-Order.is c.in_ok-search.ensures in
    let listed = Contains-reverse c.args.root c.in-Order.field-0.items ((found.reached c.args.root).1 itself) in (
      λ t. absurd cc,
      λ h. absurd (no_cycle (ends_of c.args.graph.now)
          (reverse c.in-Order.field-0.items) found.finishes c.args.root listed h),
    )
