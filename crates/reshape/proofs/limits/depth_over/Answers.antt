-- One result is the new root itself, and else there is a compound over them.
use Rattle.std.proofs.Common.{arith, ◌≡◌, ◌<◌, ◌+◌, ◌∙◌, ◌^◌, suc, Bool, sym, ap}
use Rattle.std.specs.Prelude.{if◌then◌else◌}
use Rattle.lists.proofs.Entries.{All-place}
use Rattle.lists.proofs.Places.{at_place}
use Rattle.key_results.specs.declared.weighing.Weight.{Weight}
use Rattle.reshape.proofs.limits.depth_over.Goals as goal

pub returns-then-is_one : goal.returns-then-is_one
returns-then-is_one c = λ w at.
    c.depth_at-below.ensures w at ∙
    sym (ap (λ (b : Bool). if b then w.depth else suc w.depth) (sym c.is_one.ensures ∙ c.if-is_one.true))

pub overflow_add-result : goal.overflow_add-result
overflow_add-result c =
    let w = at_place c.args.weights.now.of_keys.items c.args.key c.requires.key in
    let deep = All-place (λ (v : Weight). v.depth < 2 ^ 127) c.args.weights.now.of_keys.items c.args.key w.0
    c.requires.deep w.1 in
    let same = c.depth_at-below.ensures w.0 w.1 in
    omega (arith, deep, same)

pub returns : goal.returns
returns c = λ w at.
    let same = c.depth_at-below.ensures w at in
    let next : c.depth_at-below.result + 1 ≡ suc w.depth = omega (arith, same) in
    next ∙ sym (ap (λ (b : Bool). if b then w.depth else suc w.depth) (sym c.is_one.ensures ∙ c.if-is_one.false))
