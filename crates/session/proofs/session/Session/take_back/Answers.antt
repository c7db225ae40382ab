-- The step that isn't finished is taken back, or else the last one, if there is one.
use Rattle.std.proofs.Common.{◌≡◌, ◌∙◌, sym, subst, [], OnOk}
use Rattle.script_text.specs.declared.command.Command.TheVariants.{Undo}
use Rattle.session.specs.Commands.{GoesOn}
use Rattle.session.specs.Views.{View}
use Rattle.session.proofs.EndLaws.{a-session, empty-is, filled-is, on-ok, session-on}
use Rattle.session.proofs.SetLaws.{undo-asked-on, undo-step-on}
use Rattle.session.proofs.session.Session.take_back.Goals as goal
use Rattle.session.proofs.session.Session.take_back.Goals.{in-Some, in-None}

pub invariant_of-self : goal.invariant_of-self
invariant_of-self c =
    let i = c.self.inside in
    let v : View =
    a-session i.file i.words i.pool i.first i.start i.versions.items i.asked.items i.rule i.output i.carried in
    let some : i.asked.items ≡ [] → ⊥ = λ e.
    filled-is c.as_slice-given.result.now c.is_empty.result c.is_empty.ensures c.if-not-is_empty.true
    (c.as_slice-given.ensures.value ∙ e) in
    session-on v (record v { asked = c.clear.new.self.items; rule = c.usual-self-inside.result }) Undo c.self.invariant
    (undo-asked-on v c.clear.new.self.items c.usual-self-inside.result some c.clear.ensures.items
    c.usual-self-inside.ensures)

pub returns-then-not-is_empty-clause-done : goal.returns-then-not-is_empty-clause-done
returns-then-not-is_empty-clause-done c =
    let i = c.self.inside in
    let v : View =
    a-session i.file i.words i.pool i.first i.start i.versions.items i.asked.items i.rule i.output i.carried in
    let some : i.asked.items ≡ [] → ⊥ = λ e.
    filled-is c.as_slice-given.result.now c.is_empty.result c.is_empty.ensures c.if-not-is_empty.true
    (c.as_slice-given.ensures.value ∙ e) in
    subst (λ z. GoesOn z (record v { asked = c.clear.new.self.items; rule = c.usual-self-inside.result }) Undo)
    c.self.view_is
    (undo-asked-on v c.clear.new.self.items c.usual-self-inside.result some c.clear.ensures.items
    c.usual-self-inside.ensures)

pub invariant_of-self-in-Some : goal.invariant_of-self-in-Some
invariant_of-self-in-Some c =
    let i = c.self.inside in
    let v : View =
    a-session i.file i.words i.pool i.first i.start i.versions.items i.asked.items i.rule i.output i.carried in
    let none =
    sym c.as_slice-given.ensures.value ∙
    empty-is c.as_slice-given.result.now c.is_empty.result c.is_empty.ensures c.if-not-is_empty.false in
    session-on v (record v { versions = c.pop.new.self.items; rule = c.usual-self-inside-in-Some.result }) Undo
    c.self.invariant
    (undo-step-on v c.pop.new.self.items c.in-Some.field-0 c.in-Some.ensures.items
    c.usual-self-inside-in-Some.result none c.usual-self-inside-in-Some.ensures)

pub returns-clause-done : goal.returns-clause-done
returns-clause-done c =
    let i = c.self.inside in
    let v : View =
    a-session i.file i.words i.pool i.first i.start i.versions.items i.asked.items i.rule i.output i.carried in
    let none =
    sym c.as_slice-given.ensures.value ∙
    empty-is c.as_slice-given.result.now c.is_empty.result c.is_empty.ensures c.if-not-is_empty.false in
    elim c.match-pop.branch [
      | in-Some w ↦
          on-ok c.match-pop.result (GoesOn c.args.self.now c.match-pop.self Undo)
          (subst (λ z. GoesOn c.args.self.now z Undo) (sym w.self-is)
          (subst
          (λ z. GoesOn z (record v { versions = c.pop.new.self.items; rule = w.usual-self-inside-in-Some.result })
          Undo) c.self.view_is
          (undo-step-on v c.pop.new.self.items w.in-Some.field-0 w.in-Some.ensures.items
          w.usual-self-inside-in-Some.result none w.usual-self-inside-in-Some.ensures)))
      | in-None w ↦
          subst (λ r. OnOk r (GoesOn c.args.self.now c.match-pop.self Undo)) (sym w.result-is) tt
    ]
