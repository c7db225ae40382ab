use Rattle.std.proofs.Common.{◌<◌, ◌∙◌, arith, ap, subst, ℕ, List, Contains, IsTrue, length, nat_eq}
use Rattle.std.specs.Prelude.{not}
use Rattle.std.proofs.lemmas.List.{get_or_default}
use Rattle.written_order.specs.Placed.{Listed, numbers_of}
use Rattle.written_order.proofs.Places.{has-tells}
use Rattle.written_order.proofs.order.Order.has.Goals as goal

pub returns : goal.returns
returns c =
    let room = ap (λ (l : Listed). l.room) c.self.view_is in
    let within : c.args.id.0 < length c.self.inside.places.items = omega (arith, c.requires, room) in
    subst (λ (ns : List ℕ). (IsTrue (not (nat_eq c.index.result.now 0)) → Contains ns c.args.id.0)
    × (Contains ns c.args.id.0 → IsTrue (not (nat_eq c.index.result.now 0))))
    (ap (λ (l : Listed). l.numbers) c.self.view_is)
    (has-tells (numbers_of c.self.inside.ids.items) c.self.inside.places.items c.self.invariant c.args.id.0 within
    c.index.result.now
    (c.index.ensures ∙ get_or_default c.self.inside.places.items c.args.id.0 c.index.result.now 0 within))
