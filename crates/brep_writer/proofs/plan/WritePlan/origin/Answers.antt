use Rattle.std.proofs.Common.{◌<◌, ◌-◌, ◌∙◌, arith, ap, length, sym}
use Rattle.std.specs.Prelude.{ℕ, slice_get}
use Rattle.lists.proofs.Places.{Contains-at}
use Rattle.brep_writer.proofs.Plans.{held, id-at, ids-count, ids-size, origins-are}
use Rattle.brep_writer.proofs.plan.WritePlan.origin.Goals as goal

pub overflow_sub-ids : goal.overflow_sub-ids
overflow_sub-ids c =
    (ids-size c.args.self.now c.requires.plan c.ids-ids.result.now c.ids-ids.ensures c.args.number c.requires.number).1

pub bounds-ids-ids : goal.bounds-ids-ids
bounds-ids-ids c =
    let within = ids-size c.args.self.now c.requires.plan c.ids-ids.result.now c.ids-ids.ensures c.args.number
    c.requires.number in
    let low = within.0 in
    let high = within.1 in
    omega (arith, low, high)

pub origin-requires : goal.origin-requires
origin-requires c =
    let p = c.args.self.now in
    let ids = c.ids-ids.result.now in
    let within = ids-size p c.requires.plan ids c.ids-ids.ensures c.args.number c.requires.number in
    let low = within.0 in
    let high = within.1 in
    let lt : length ids - c.args.number < length ids = omega (arith, low, high) in
    held p c.requires.plan _
    (Contains-at p.order.numbers (length ids - c.args.number) _
    (id-at p c.requires.plan ids c.ids-ids.ensures (length ids - c.args.number) _ lt))

pub returns : goal.returns
returns c =
    let p = c.args.self.now in
    let ids = c.ids-ids.result.now in
    let within = ids-size p c.requires.plan ids c.ids-ids.ensures c.args.number c.requires.number in
    let low = within.0 in
    let high = within.1 in
    let lt : length ids - c.args.number < length ids = omega (arith, low, high) in
    c.origin.ensures
    ∙ origins-are p c.requires.plan c.laws.ensures c.args.number _ c.requires.number
    (ap (λ (n : ℕ). slice_get p.order.numbers (n - c.args.number))
    (sym (ids-count p c.requires.plan ids c.ids-ids.ensures))
    ∙ id-at p c.requires.plan ids c.ids-ids.ensures (length ids - c.args.number) _ lt)
