-- One use more at each turn.
use Rattle.std.proofs.Common.{sym, ◌∙◌, ap, map}
use Rattle.expansion_laws.specs.Trees.{Use}
use Rattle.expansion_laws.specs.Plain.{shown_use}
use Rattle.expansion_laws.specs.SlowParts.{seen_use}
use Rattle.expansion_laws.proofs.MovingLemmas.{uses-out, moved-more, moved-all, map-same}
use Rattle.expansion_laws.proofs.moving.own_uses.Goals as goal

pub loop-u-init : goal.loop-u-init
loop-u-init c = ap (map seen_use) c.new-own.ensures.items

pub loop-u-preserved : goal.loop-u-preserved
loop-u-preserved c =
    moved-more seen_use shown_use (λ (u : Use). u) c.loop-u.own.items c.push.new.self.items c.in_ok-one.one
    c.as_slice-u-items.result.now c.loop-u.u-index c.u-item.result
    c.loop-u-test.true c.u-item.is c.in_ok-push.ensures.items c.in_ok-one.ensures c.loop-u.invariant

pub returns : goal.returns
returns c =
    moved-all seen_use shown_use (λ (u : Use). u) c.loop-u.own.items c.as_slice-u-items.result.now c.loop-u.u-index
    c.loop-u-test.false c.loop-u.invariant
    ∙ map-same (map shown_use c.as_slice-u-items.result.now)
    ∙ ap (map shown_use) c.as_slice-u-items.ensures.value
    ∙ sym (uses-out c.args.tree.now)
