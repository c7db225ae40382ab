-- Each in turn is told the event.
use Rattle.std.proofs.Common.{rules, ◌≡◌, ◌<◌, ap, sym, subst, refl, ◌∙◌, arith, length, slice_set}
use Rattle.std.proofs.lemmas.List.{length-set}
use Rattle.watchers.proofs.TellingLaws.{ToldUpTo, told-on, all-told}
use Rattle.watchers.proofs.watchers.Watchers.tell.Goals as goal

pub loop-i-init : goal.loop-i-init
loop-i-init g c = (refl, refl)

pub loop-i-preserved : goal.loop-i-preserved
loop-i-preserved g c =
    let long = c.loop-i.invariant.1 in
    let within : c.loop-i.i < length c.loop-i.self.slots.items =
    omega (arith, long, c.loop-i-test.true, c.len-i-end.ensures) in (
      told-on _ c.args.e c.loop-i.i c.args.self.now.slots.items c.loop-i.self.slots.items c.index_mut.result.now
          c.tell.new.self c.loop-i.invariant.0 within c.index_mut.ensures.value c.tell.ensures,
      length-set c.loop-i.self.slots.items c.loop-i.i c.tell.new.self ∙ long,
    )

pub returns : goal.returns
returns g c =
    let long = c.loop-i.invariant.1 in
    let all : c.loop-i.i ≡ length c.args.self.now.slots.items =
    omega (arith, long, c.loop-i-test.false, c.len-i-end.ensures, c.loop-i.auto.i-end) in
    all-told _ c.args.e c.args.self.now.slots.items c.loop-i.self.slots.items
    (subst (λ k. ToldUpTo _ c.args.e k c.args.self.now.slots.items c.loop-i.self.slots.items) all c.loop-i.invariant.0)
