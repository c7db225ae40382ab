-- The end of a step takes the session to the next state, or it is as it was.
use Rattle.std.proofs.Common.{◌≡◌, ◌+◌, ◌∙◌, sym, subst, arith, []}
use Rattle.lists.proofs.Errors.{IfErr-on}
use Rattle.script_text.specs.declared.command.Command.TheVariants.{Apply}
use Rattle.session.specs.Commands.{GoesOn, IsAccepted, IsAsItWas, IsRefusedFor, KeepsNumbers, RisesBy}
use Rattle.session.specs.Standing.{InStates}
use Rattle.session.specs.Views.{View}
use Rattle.session.proofs.EndLaws.{a-session, as-it-was, count-rises, empty-is, fault-here, filled-is, history-held}
use Rattle.session.proofs.EndLaws.{is-accepted, mid-session, none-goes-on, on-err, plan-here, plan-refused, root-held}
use Rattle.session.proofs.EndLaws.{session-on, step-goes-on, step-refused}
use Rattle.session.proofs.session.Session.end_step.Goals as goal

pub invariant_of-self : goal.invariant_of-self
invariant_of-self g c =
    let i = c.self.inside in
    let v : View =
    a-session i.file i.words i.pool i.first i.start i.versions.items i.asked.items i.rule i.output i.carried in
    let none =
    sym c.as_slice-given.ensures.value ∙
    empty-is c.as_slice-given.result.now c.is_empty.result c.is_empty.ensures c.if-is_empty.true in
    session-on v
    (a-session i.file i.words i.pool i.first i.start i.versions.items i.asked.items c.usual-self-inside.result i.output
    i.carried)
    Apply c.self.invariant
    (none-goes-on v c.usual-self-inside.result none c.usual-self-inside.ensures)

pub returns-then-is_empty-clause-done : goal.returns-then-is_empty-clause-done
returns-then-is_empty-clause-done g c =
    let i = c.self.inside in
    let v : View =
    a-session i.file i.words i.pool i.first i.start i.versions.items i.asked.items i.rule i.output i.carried in
    let none =
    sym c.as_slice-given.ensures.value ∙
    empty-is c.as_slice-given.result.now c.is_empty.result c.is_empty.ensures c.if-is_empty.true in
    subst (λ z. GoesOn z
    (a-session i.file i.words i.pool i.first i.start i.versions.items i.asked.items c.usual-self-inside.result i.output
    i.carried)
    Apply) c.self.view_is
    (none-goes-on v c.usual-self-inside.result none c.usual-self-inside.ensures)

pub returns-in_err-plan-clause-refused : goal.returns-in_err-plan-clause-refused
returns-in_err-plan-clause-refused g c =
    let i = c.self.inside in
    let v : View =
    a-session i.file i.words i.pool i.first i.start i.versions.items i.asked.items i.rule i.output i.carried in
    let some : i.asked.items ≡ [] → ⊥ = λ e.
    filled-is c.as_slice-given.result.now c.is_empty.result c.is_empty.ensures c.if-is_empty.false
    (c.as_slice-given.ensures.value ∙ e) in
    let fault = c.in_err-plan.field-0.0 in
    let due =
    fault-here i.pool i.rule i.first i.versions.items c.as_slice.result.now i.asked.items c.as_slice-given.result.now
    c.last_root-root.result c.last_root-root.ensures c.as_slice.ensures.value c.as_slice-given.ensures.value i.carried
    fault c.in_err-plan.ensures.refused in
    IfErr-on c.from_residual.result fault (IsRefusedFor c.args.self.now c.args.line Apply) c.from_residual.ensures.1
    (subst (λ z. IsRefusedFor z c.args.line Apply fault) c.self.view_is (plan-refused v c.args.line fault some due))

pub add_version-requires-clause-root : goal.add_version-requires-clause-root
add_version-requires-clause-root g c =
    let i = c.self.inside in
    let v : View =
    a-session i.file i.words i.pool i.first i.start i.versions.items i.asked.items i.rule i.output i.carried in
    (root-held v c.self.invariant).0

pub add_version-requires-clause-place : goal.add_version-requires-clause-place
add_version-requires-clause-place g c =
    let i = c.self.inside in
    let v : View =
    a-session i.file i.words i.pool i.first i.start i.versions.items i.asked.items i.rule i.output i.carried in
    (root-held v c.self.invariant).1

pub add_version-requires-clause-history : goal.add_version-requires-clause-history
add_version-requires-clause-history g c =
    let i = c.self.inside in
    let v : View =
    a-session i.file i.words i.pool i.first i.start i.versions.items i.asked.items i.rule i.output i.carried in
    history-held v c.self.invariant

pub invariant_of-self-in_err-add_version : goal.invariant_of-self-in_err-add_version
invariant_of-self-in_err-add_version g c =
    let i = c.self.inside in
    let v : View =
    a-session i.file i.words i.pool i.first i.start i.versions.items i.asked.items i.rule i.output i.carried in
    let some : i.asked.items ≡ [] → ⊥ = λ e.
    filled-is c.as_slice-given.result.now c.is_empty.result c.is_empty.ensures c.if-is_empty.false
    (c.as_slice-given.ensures.value ∙ e) in
    let planned =
    plan-here i.pool i.rule i.first i.versions.items c.as_slice.result.now i.asked.items c.as_slice-given.result.now
    c.last_root-root.result c.last_root-root.ensures c.as_slice.ensures.value c.as_slice-given.ensures.value
    c.in_ok-plan.plan c.in_ok-plan.ensures.plan in
    mid-session v c.loading_stays.ensures c.laws.ensures c.add_version.new.words c.in_err-add_version.ensures.words
    c.in_ok-plan.plan planned
    c.in_ok-plan.ensures.room some c.self.invariant
    c.add_version.new.pool c.add_version.new.versions.items c.in_err-add_version.ensures.back
    c.in_err-add_version.ensures.same

pub returns-in_err-add_version-clause-refused : goal.returns-in_err-add_version-clause-refused
returns-in_err-add_version-clause-refused g c =
    let i = c.self.inside in
    let v : View =
    a-session i.file i.words i.pool i.first i.start i.versions.items i.asked.items i.rule i.output i.carried in
    let some : i.asked.items ≡ [] → ⊥ = λ e.
    filled-is c.as_slice-given.result.now c.is_empty.result c.is_empty.ensures c.if-is_empty.false
    (c.as_slice-given.ensures.value ∙ e) in
    let planned =
    plan-here i.pool i.rule i.first i.versions.items c.as_slice.result.now i.asked.items c.as_slice-given.result.now
    c.last_root-root.result c.last_root-root.ensures c.as_slice.ensures.value c.as_slice-given.ensures.value
    c.in_ok-plan.plan c.in_ok-plan.ensures.plan in
    let fault = c.in_err-add_version.field-0.0 in
    IfErr-on c.from_residual-in_err-add_version.result fault (IsRefusedFor c.args.self.now c.args.line Apply)
    c.from_residual-in_err-add_version.ensures.1
    (subst (λ z. IsRefusedFor z c.args.line Apply fault) c.self.view_is
    (step-refused v c.loading_stays.ensures c.laws.ensures c.add_version.new.words c.in_err-add_version.ensures.words
    c.in_ok-plan.plan planned
    c.in_ok-plan.ensures.room some c.args.line fault c.in_err-add_version.ensures.refused))

pub returns-in_err-add_version-clause-same : goal.returns-in_err-add_version-clause-same
returns-in_err-add_version-clause-same g c =
    let i = c.self.inside in
    let v : View =
    a-session i.file i.words i.pool i.first i.start i.versions.items i.asked.items i.rule i.output i.carried in
    let some : i.asked.items ≡ [] → ⊥ = λ e.
    filled-is c.as_slice-given.result.now c.is_empty.result c.is_empty.ensures c.if-is_empty.false
    (c.as_slice-given.ensures.value ∙ e) in
    let planned =
    plan-here i.pool i.rule i.first i.versions.items c.as_slice.result.now i.asked.items c.as_slice-given.result.now
    c.last_root-root.result c.last_root-root.ensures c.as_slice.ensures.value c.as_slice-given.ensures.value
    c.in_ok-plan.plan c.in_ok-plan.ensures.plan in
    let new : View =
    a-session i.file c.add_version.new.words c.add_version.new.pool i.first i.start c.add_version.new.versions.items
    i.asked.items i.rule i.output i.carried in
    on-err c.from_residual-in_err-add_version.result (IsAsItWas c.args.self.now new)
    (subst (λ z. IsAsItWas z new) c.self.view_is
    (as-it-was v c.loading_stays.ensures c.laws.ensures c.add_version.new.words c.in_err-add_version.ensures.words
    c.in_ok-plan.plan planned
    c.in_ok-plan.ensures.room some
    c.add_version.new.pool c.add_version.new.versions.items c.in_err-add_version.ensures.back
    c.in_err-add_version.ensures.same))

pub returns-in_err-add_version-clause-kept : goal.returns-in_err-add_version-clause-kept
returns-in_err-add_version-clause-kept g c =
    let i = c.self.inside in
    let v : View =
    a-session i.file i.words i.pool i.first i.start i.versions.items i.asked.items i.rule i.output i.carried in
    let new : View =
    a-session i.file c.add_version.new.words c.add_version.new.pool i.first i.start c.add_version.new.versions.items
    i.asked.items i.rule i.output i.carried in
    subst (λ z. KeepsNumbers z new) c.self.view_is
    (record { words = c.in_err-add_version.ensures.words.kept; rows = c.in_err-add_version.ensures.kept })

pub returns-in_err-add_version-clause-steps : goal.returns-in_err-add_version-clause-steps
returns-in_err-add_version-clause-steps g c =
    let i = c.self.inside in
    let v : View =
    a-session i.file i.words i.pool i.first i.start i.versions.items i.asked.items i.rule i.output i.carried in
    let some : i.asked.items ≡ [] → ⊥ = λ e.
    filled-is c.as_slice-given.result.now c.is_empty.result c.is_empty.ensures c.if-is_empty.false
    (c.as_slice-given.ensures.value ∙ e) in
    let planned =
    plan-here i.pool i.rule i.first i.versions.items c.as_slice.result.now i.asked.items c.as_slice-given.result.now
    c.last_root-root.result c.last_root-root.ensures c.as_slice.ensures.value c.as_slice-given.ensures.value
    c.in_ok-plan.plan c.in_ok-plan.ensures.plan in
    subst (λ (z : View). InStates z (λ s. RisesBy z.file s Apply c.args.steps.now c.add_version.new.steps))
    c.self.view_is
    (count-rises v c.loading_stays.ensures c.laws.ensures c.add_version.new.words c.in_err-add_version.ensures.words
    c.in_ok-plan.plan planned
    c.in_ok-plan.ensures.room some c.args.steps.now
    c.add_version.new.steps c.in_err-add_version.ensures.steps)

pub invariant_of-self-2 : goal.invariant_of-self-2
invariant_of-self-2 g c =
    let i = c.self.inside in
    let v : View =
    a-session i.file i.words i.pool i.first i.start i.versions.items i.asked.items i.rule i.output i.carried in
    let some : i.asked.items ≡ [] → ⊥ = λ e.
    filled-is c.as_slice-given.result.now c.is_empty.result c.is_empty.ensures c.if-is_empty.false
    (c.as_slice-given.ensures.value ∙ e) in
    let planned =
    plan-here i.pool i.rule i.first i.versions.items c.as_slice.result.now i.asked.items c.as_slice-given.result.now
    c.last_root-root.result c.last_root-root.ensures c.as_slice.ensures.value c.as_slice-given.ensures.value
    c.in_ok-plan.plan c.in_ok-plan.ensures.plan in
    session-on v
    (a-session i.file c.add_version.new.words c.add_version.new.pool i.first i.start c.add_version.new.versions.items
    c.clear.new.self.items c.usual-self-inside-2.result i.output (i.carried + 1))
    Apply c.self.invariant
    (step-goes-on v c.loading_stays.ensures c.laws.ensures c.add_version.new.words c.in_ok-add_version.ensures.words
    c.in_ok-plan.plan planned
    c.in_ok-plan.ensures.room some
    c.origins_stay.ensures c.words_stay.ensures c.subtrees_stand.ensures c.targets_fit_as_trees.ensures
    c.add_version.new.pool c.laws-2.ensures c.in_ok-add_version.ensures.kept c.in_ok-add_version.ensures.loaded
    c.in_ok-add_version.ensures.places c.add_version.new.versions.items
    c.in_ok-add_version.ensures.made c.clear.new.self.items c.usual-self-inside-2.result (i.carried + 1)
    c.clear.ensures.items
    c.usual-self-inside-2.ensures (omega arith))

pub returns-clause-done : goal.returns-clause-done
returns-clause-done g c =
    let i = c.self.inside in
    let v : View =
    a-session i.file i.words i.pool i.first i.start i.versions.items i.asked.items i.rule i.output i.carried in
    let some : i.asked.items ≡ [] → ⊥ = λ e.
    filled-is c.as_slice-given.result.now c.is_empty.result c.is_empty.ensures c.if-is_empty.false
    (c.as_slice-given.ensures.value ∙ e) in
    let planned =
    plan-here i.pool i.rule i.first i.versions.items c.as_slice.result.now i.asked.items c.as_slice-given.result.now
    c.last_root-root.result c.last_root-root.ensures c.as_slice.ensures.value c.as_slice-given.ensures.value
    c.in_ok-plan.plan c.in_ok-plan.ensures.plan in
    subst (λ z. GoesOn z
    (a-session i.file c.add_version.new.words c.add_version.new.pool i.first i.start c.add_version.new.versions.items
    c.clear.new.self.items c.usual-self-inside-2.result i.output (i.carried + 1))
    Apply) c.self.view_is
    (step-goes-on v c.loading_stays.ensures c.laws.ensures c.add_version.new.words c.in_ok-add_version.ensures.words
    c.in_ok-plan.plan planned
    c.in_ok-plan.ensures.room some
    c.origins_stay.ensures c.words_stay.ensures c.subtrees_stand.ensures c.targets_fit_as_trees.ensures
    c.add_version.new.pool c.laws-2.ensures c.in_ok-add_version.ensures.kept c.in_ok-add_version.ensures.loaded
    c.in_ok-add_version.ensures.places c.add_version.new.versions.items
    c.in_ok-add_version.ensures.made c.clear.new.self.items c.usual-self-inside-2.result (i.carried + 1)
    c.clear.ensures.items
    c.usual-self-inside-2.ensures (omega arith))

pub returns-clause-accepted : goal.returns-clause-accepted
returns-clause-accepted g c =
    let i = c.self.inside in
    let v : View =
    a-session i.file i.words i.pool i.first i.start i.versions.items i.asked.items i.rule i.output i.carried in
    let some : i.asked.items ≡ [] → ⊥ = λ e.
    filled-is c.as_slice-given.result.now c.is_empty.result c.is_empty.ensures c.if-is_empty.false
    (c.as_slice-given.ensures.value ∙ e) in
    let planned =
    plan-here i.pool i.rule i.first i.versions.items c.as_slice.result.now i.asked.items c.as_slice-given.result.now
    c.last_root-root.result c.last_root-root.ensures c.as_slice.ensures.value c.as_slice-given.ensures.value
    c.in_ok-plan.plan c.in_ok-plan.ensures.plan in
    subst (λ z. IsAccepted z c.args.line Apply) c.self.view_is
    (is-accepted v c.loading_stays.ensures c.laws.ensures c.add_version.new.words c.in_ok-add_version.ensures.words
    c.in_ok-plan.plan planned
    c.in_ok-plan.ensures.room some c.cycles_are_determined.ensures c.args.line
    c.in_ok-add_version.ensures.within)

pub returns-clause-kept : goal.returns-clause-kept
returns-clause-kept g c =
    let i = c.self.inside in
    let v : View =
    a-session i.file i.words i.pool i.first i.start i.versions.items i.asked.items i.rule i.output i.carried in
    let new : View =
    a-session i.file c.add_version.new.words c.add_version.new.pool i.first i.start c.add_version.new.versions.items
    c.clear.new.self.items c.usual-self-inside-2.result i.output (i.carried + 1) in
    subst (λ z. KeepsNumbers z new) c.self.view_is
    (record { words = c.in_ok-add_version.ensures.words.kept; rows = c.in_ok-add_version.ensures.kept })

pub returns-clause-steps : goal.returns-clause-steps
returns-clause-steps g c =
    let i = c.self.inside in
    let v : View =
    a-session i.file i.words i.pool i.first i.start i.versions.items i.asked.items i.rule i.output i.carried in
    let some : i.asked.items ≡ [] → ⊥ = λ e.
    filled-is c.as_slice-given.result.now c.is_empty.result c.is_empty.ensures c.if-is_empty.false
    (c.as_slice-given.ensures.value ∙ e) in
    let planned =
    plan-here i.pool i.rule i.first i.versions.items c.as_slice.result.now i.asked.items c.as_slice-given.result.now
    c.last_root-root.result c.last_root-root.ensures c.as_slice.ensures.value c.as_slice-given.ensures.value
    c.in_ok-plan.plan c.in_ok-plan.ensures.plan in
    subst (λ (z : View). InStates z (λ s. RisesBy z.file s Apply c.args.steps.now c.add_version.new.steps))
    c.self.view_is
    (count-rises v c.loading_stays.ensures c.laws.ensures c.add_version.new.words c.in_ok-add_version.ensures.words
    c.in_ok-plan.plan planned
    c.in_ok-plan.ensures.room some c.args.steps.now
    c.add_version.new.steps c.in_ok-add_version.ensures.steps)
