-- One part more, or the use of the key's own node.
use Rattle.std.proofs.Common.{◌≡◌, ◌≤◌, ◌<◌, ◌∙◌, sym, ap, subst, List, All, length, true}
use Rattle.std.proofs.lemmas.Result.{err_from_is_err_and}
use Rattle.key_results.specs.declared.parts.Part.{Part}
use Rattle.key_results.proofs.WordLaws.{reads-old, reads-zero, grows-on, grows-none}
use Rattle.key_results.proofs.PartTurns.{due-own}
use Rattle.key_results.proofs.PartOwn.{ok-so, err-so, added-own, added-all, added-none, carried-turn, due-turn}
use Rattle.key_results.proofs.parts.add_results.Goals as goal

pub returns-then-of_key-clause-added : goal.returns-then-of_key-clause-added
returns-then-of_key-clause-added c =
    ok-so c.add_part.result
    (λ h word own r. added-own word own c.args.mover c.args.link c.args.link.key c.args.of_key.now c.own_part.result _
    _ c.if-of_key.true
    c.own_part.ensures.turn c.own_part.ensures.place c.own_part.ensures.of
    (reads-zero c.add_part.new.words word c.add_part.ensures.grows.table r) (h word own r))
    c.add_part.ensures.added

pub returns-then-of_key-clause-held : goal.returns-then-of_key-clause-held
returns-then-of_key-clause-held c =
    ok-so c.add_part.result (λ h k lt of held. h k (subst (λ n. n < k) (sym c.own_part.ensures.of) lt) held)
    c.add_part.ensures.held

pub returns-then-of_key-clause-own : goal.returns-then-of_key-clause-own
returns-then-of_key-clause-own c =
    ok-so c.add_part.result
    (λ h is key of old. h is (subst (λ n. is n ≡ true) (sym c.own_part.ensures.of) (key c.if-of_key.true)) old)
    c.add_part.ensures.own

pub returns-then-of_key-clause-refused : goal.returns-then-of_key-clause-refused
returns-then-of_key-clause-refused c =
    err-so c.add_part.result (λ fault h word own r.
    due-own word own c.args.mover c.args.link c.args.link.key c.args.of_key.now fault (word c.own_part.result.place.0)
    c.if-of_key.true
    (ap word c.own_part.ensures.place ∙ reads-zero c.add_part.new.words word c.add_part.ensures.grows.table r)
    (h word r)) c.add_part.ensures.refused

pub loop-part-init : goal.loop-part-init
loop-part-init c = (
  λ word own r. added-none word own c.args.mover c.args.link _,
  λ k of held. held,
  grows-none c.args.words.now c.len.ensures.table,
  λ is of old. old,
)

pub loop-part-preserved : goal.loop-part-preserved
loop-part-preserved c = (
  λ word own r. carried-turn word own c.args.mover c.args.link _ _ _ c.as_slice-part-items.result.now
      c.args.of_key.now.parts.items c.loop-part.part-index _
      c.as_slice-part-items.ensures.value c.loop-part-test.true (c.in_ok-add_part.ensures.added word own r)
      (c.loop-part.invariant.0 word own (reads-old c.loop-part.words c.add_part-in-loop-part.new.words word
      c.in_ok-add_part.ensures.grows r)),
  λ k of held. c.in_ok-add_part.ensures.held k
      (subst (λ (ps : List Part). All (λ (p : Part). p.of < k) ps) (sym c.as_slice-part-items.ensures.value) of
      c.loop-part.part-index _ c.loop-part-test.true)
      (c.loop-part.invariant.1 k of held),
  grows-on c.args.words.now c.loop-part.words c.add_part-in-loop-part.new.words c.loop-part.invariant.2
      c.in_ok-add_part.ensures.grows,
  λ is of old. c.in_ok-add_part.ensures.own is
      (subst (λ (ps : List Part). All (λ (p : Part). is p.of ≡ true) ps) (sym c.as_slice-part-items.ensures.value) of
      c.loop-part.part-index _ c.loop-part-test.true)
      (c.loop-part.invariant.3 is of old),
)

pub returns-in_err-add_part-clause-refused : goal.returns-in_err-add_part-clause-refused
returns-in_err-add_part-clause-refused c =
    let p = err_from_is_err_and c.from_residual.result c.from_residual.ensures.1 in
    rw (p.1, p.2)
    (λ word own r. due-turn word own c.args.mover c.args.link c.args.link.key c.args.of_key.now
    c.in_err-add_part.field-0.0
    c.as_slice-part-items.result.now c.loop-part.part-index _ c.as_slice-part-items.ensures.value c.loop-part-test.true
    c.if-of_key.false
    (c.in_err-add_part.ensures.refused word r))

pub returns-clause-added : goal.returns-clause-added
returns-clause-added c = λ word own r.
    added-all word own c.args.mover c.args.link c.args.link.key c.loop-part.part-index c.args.of_key.now _ _
    c.if-of_key.false
    (subst (λ (ps : List Part). length ps ≤ c.loop-part.part-index) c.as_slice-part-items.ensures.value
    c.loop-part-test.false) (c.loop-part.invariant.0 word own r)

pub returns-clause-held : goal.returns-clause-held
returns-clause-held c = λ k lt of held. c.loop-part.invariant.1 k of held

pub returns-clause-own : goal.returns-clause-own
returns-clause-own c = λ is key of old. c.loop-part.invariant.3 is of old
