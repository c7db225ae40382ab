-- One place more.
use Rattle.std.proofs.Common.{arith, ◌≡◌, ◌+◌, ℕ, suc, List, sym, subst}
use Rattle.key_results.specs.declared.key.Key.{Key}
use Rattle.reshape.specs.Collecting.{AreJoined}
use Rattle.reshape.proofs.MemoLaws.{AreOrderedTo, ordered-none, ordered-next, ordered-all}
use Rattle.reshape.proofs.order.in_order.Goals as goal

pub loop-p-init : goal.loop-p-init
loop-p-init c =
    subst (λ (l : List Key). AreOrderedTo c.args.found.now.at.items 0 l) (sym c.none_yet-keys.ensures)
    (ordered-none c.args.found.now.at.items)

pub loop-p-preserved : goal.loop-p-preserved
loop-p-preserved c =
    let at = c.args.found.now.at.items in
    let old = c.loop-p.keys.keys in
    let new = c.add_keys.new.keys.keys in
    let next : suc c.loop-p.p ≡ c.loop-p.p + 1 = omega arith in
    subst (λ (n : ℕ). AreOrderedTo at n new) next
    (ordered-next at c.loop-p.p old new c.loop-p.invariant
    (subst (λ (l : List Key). AreJoined l old new) c.found_at.ensures c.in_ok-add_keys.ensures))

pub returns : goal.returns
returns c = ordered-all c.args.found.now.at.items c.loop-p.p c.loop-p.keys.keys (omega arith) c.loop-p.invariant
