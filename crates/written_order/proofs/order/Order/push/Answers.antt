use Rattle.std.proofs.Common.{◌≡◌, ◌≤◌, ◌∙◌, [], ◌∷◌, ◌++◌, ℕ, List, ap, arith, length, rules, Contains, ◌+◌, slice_set, subst, sym}
use Rattle.std.proofs.lemmas.List.{length-map, length_push, map-append}
use Rattle.shape_pool.specs.declared.node.NodeId.{NodeId}
use Rattle.written_order.specs.Placed.{ArePlaced, Listed, numbers_of}
use Rattle.written_order.proofs.Places.{few_numbers, placed_push}
use Rattle.written_order.proofs.order.Order.push.Goals as goal

pub overflow_cast-len : goal.overflow_cast-len
overflow_cast-len c =
    let all = few_numbers (numbers_of c.self.inside.ids.items) c.self.inside.places.items c.self.invariant in
    let long = length-map c.self.inside.ids.items (λ (id : NodeId). id.0) in
    let more = ap length c.in_ok-push.ensures.items in
    let one = length_push c.self.inside.ids.items c.args.id in
    let few : c.len.result ≤ 4194305 = omega (arith, all, long, more, one, c.len.ensures, c.self.invariant.few) in
    search rules

pub invariant_of-self-2 : goal.invariant_of-self-2
invariant_of-self-2 c =
    let ns : List ℕ = numbers_of c.self.inside.ids.items in
    let ps : List ℕ = c.self.inside.places.items in
    let room = ap (λ (l : Listed). l.room) c.self.view_is in
    let long = length-map c.self.inside.ids.items (λ (id : NodeId). id.0) in
    let more = ap length c.in_ok-push.ensures.items in
    let one = length_push c.self.inside.ids.items c.args.id in
    let place : length ns + 1 ≡ c.len.result = omega (arith, long, more, one, c.len.ensures) in
    let same : ns ++ c.args.id.0 ∷ [] ≡ numbers_of c.push.new.self.items =
    sym (map-append (λ (id : NodeId). id.0) c.self.inside.ids.items (c.args.id ∷ []))
    ∙ ap numbers_of (sym c.in_ok-push.ensures.items) in
    subst (λ (l : List ℕ). ArePlaced l (slice_set ps c.args.id.0 c.len.result)) same
    (subst (λ (n : ℕ). ArePlaced (ns ++ c.args.id.0 ∷ []) (slice_set ps c.args.id.0 n)) place
    (placed_push ns ps c.self.invariant c.args.id.0 (omega (arith, c.requires.room, room))
    (λ there. c.requires.new (subst (λ (l : List ℕ). Contains l c.args.id.0)
    (ap (λ (l : Listed). l.numbers) c.self.view_is) there))))
