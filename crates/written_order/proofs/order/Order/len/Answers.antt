use Rattle.std.proofs.Common.{arith, rules, ◌≤◌}
use Rattle.std.proofs.lemmas.List.{length-map}
use Rattle.shape_pool.specs.declared.node.NodeId.{NodeId}
use Rattle.written_order.specs.Placed.{numbers_of}
use Rattle.written_order.proofs.Places.{few_numbers}
use Rattle.written_order.proofs.order.Order.len.Goals as goal

pub overflow_cast-result : goal.overflow_cast-result
overflow_cast-result c =
    let all = few_numbers (numbers_of c.self.inside.ids.items) c.self.inside.places.items c.self.invariant in
    let long = length-map c.self.inside.ids.items (λ (id : NodeId). id.0) in
    let few : c.len.result ≤ 4194304 = omega (arith, all, long, c.len.ensures, c.self.invariant.few) in
    search rules
