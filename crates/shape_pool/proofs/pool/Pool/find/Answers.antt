-- What a look-up finds.
use Rattle.std.proofs.Common.{subst, List}
use Rattle.orientation.specs.declared.kind.Kind.TheVariants.{Co}
use Rattle.shape_pool.specs.declared.held.Held.{Held}
use Rattle.shape_pool.specs.Held.{IsNext}
use Rattle.shape_pool.proofs.HandingLaws.{found-node, missing-node}
use Rattle.shape_pool.proofs.pool.Pool.find.Goals as goal

pub returns-in-Some-clause-some : goal.returns-in-Some-clause-some
returns-in-Some-clause-some c =
    let held : List Held = c.self.inside.stock in
    let next = subst (λ (hs : List Held). IsNext hs Co c.args.origin c.args.uses.now c.in_ok-node.node.value)
    c.held.ensures c.in_ok-node.ensures in
    found-node held c.args.self.now c.self.view_is Co c.args.origin c.args.uses.now c.in_ok-node.node.value next
    c.in-Some.id.0 c.in-Some.ensures.some

pub returns-clause-none : goal.returns-clause-none
returns-clause-none c =
    let held : List Held = c.self.inside.stock in
    let next = subst (λ (hs : List Held). IsNext hs Co c.args.origin c.args.uses.now c.in_ok-node.node.value)
    c.held.ensures c.in_ok-node.ensures in
    missing-node held c.args.self.now c.self.view_is Co c.args.origin c.args.uses.now c.in_ok-node.node.value next
    c.in-None.ensures.none
