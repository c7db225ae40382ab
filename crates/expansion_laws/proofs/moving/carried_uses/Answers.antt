-- One use more at each turn, with its word tested.
use Rattle.std.proofs.Common.{rules, ◌≡◌, refl, sym, ◌∙◌, ap, subst, map, [], ◌∷◌, ◌++◌}
use Rattle.expansion_laws.specs.Trees.{uses}
use Rattle.expansion_laws.specs.Contexts.{carried}
use Rattle.expansion_laws.specs.Plain.{shown_tree, shown_use}
use Rattle.expansion_laws.specs.SlowParts.{seen_use, words_of, Fail, Pass}
use Rattle.expansion_laws.proofs.MovingLemmas.{uses-out, moved-more, moved-all, passed-more, failed-now, passed-all}
use Rattle.expansion_laws.proofs.SlowLemmas.{Pass-none}
use Rattle.expansion_laws.proofs.moving.carried_uses.Goals as goal

pub loop-u-init : goal.loop-u-init
loop-u-init c = (ap (map seen_use) c.new-next.ensures.items, Pass-none)

pub returns-in_err-one-clause-refused : goal.returns-in_err-one-clause-refused
returns-in_err-one-clause-refused c =
    let failed = failed-now c.args.new.now.turn c.args.new.now.word c.as_slice-u-items.result.now c.loop-u.u-index
    c.u-item.result c.loop-u-test.true c.u-item.is
    c.in_err-one.field-0.0 c.loop-u.invariant.1 c.in_err-one.ensures.refused in
    let all : Fail
    (words_of (map (carried c.args.new.now.turn c.args.new.now.word) (uses (shown_tree c.args.new.now.tree.now))))
    c.in_err-one.field-0.0 =
    subst (λ us. Fail (words_of (map (carried c.args.new.now.turn c.args.new.now.word) us)) c.in_err-one.field-0.0)
    (ap (map shown_use) c.as_slice-u-items.ensures.value ∙ sym (uses-out c.args.new.now.tree.now)) failed in
    search rules

pub loop-u-preserved : goal.loop-u-preserved
loop-u-preserved c =
    let ok = c.if-is_err.ensures.negation in
    let pushed : c.push.new.self.items ≡ c.loop-u.next.items ++ c.in_ok-one.one ∷ [] =
    c.push.ensures.items ∙ rw ok refl in (
      moved-more seen_use shown_use (carried c.args.new.now.turn c.args.new.now.word) c.loop-u.next.items
          c.push.new.self.items c.in_ok-one.one c.as_slice-u-items.result.now c.loop-u.u-index c.u-item.result
          c.loop-u-test.true c.u-item.is pushed c.in_ok-one.ensures.ok c.loop-u.invariant.0,
      passed-more c.args.new.now.turn c.args.new.now.word c.as_slice-u-items.result.now c.loop-u.u-index c.u-item.result
          c.loop-u-test.true c.u-item.is
          c.loop-u.invariant.1 c.in_ok-one.ensures.within,
    )

pub returns-clause-ok : goal.returns-clause-ok
returns-clause-ok c =
    moved-all seen_use shown_use (carried c.args.new.now.turn c.args.new.now.word) c.loop-u.next.items
    c.as_slice-u-items.result.now c.loop-u.u-index c.loop-u-test.false c.loop-u.invariant.0
    ∙ ap (map (carried c.args.new.now.turn c.args.new.now.word))
    (ap (map shown_use) c.as_slice-u-items.ensures.value ∙ sym (uses-out c.args.new.now.tree.now))

pub returns-clause-within : goal.returns-clause-within
returns-clause-within c =
    subst (λ us. Pass (words_of (map (carried c.args.new.now.turn c.args.new.now.word) us)))
    (ap (map shown_use) c.as_slice-u-items.ensures.value ∙ sym (uses-out c.args.new.now.tree.now))
    (passed-all c.args.new.now.turn c.args.new.now.word c.as_slice-u-items.result.now c.loop-u.u-index
    c.loop-u-test.false c.loop-u.invariant.1)
