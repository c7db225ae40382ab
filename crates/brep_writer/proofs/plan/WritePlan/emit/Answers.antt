-- What went out over the sink went out over the desk that it gives back.
use Rattle.std.proofs.Common.{◌≡◌, ◌≤◌, ◌∙◌, rules, subst}
use Rattle.std.specs.Prelude.{IfErr, OnErr, OnOk}
use Rattle.brep_desk.specs.Causes.{Rose}
use Rattle.brep_desk.specs.Strays.{NoStrayOnWriting}
use Rattle.brep_desk.specs.Transfers.{AppendedAll}
use Rattle.brep_desk.specs.WritingCalls.{RoseWritingCalls}
use Rattle.byte_sink.specs.Laws.{AppendedPart}
use Rattle.brep_writer.specs.Plans.{plan_text}
use Rattle.brep_writer.proofs.Texts.{some-text}
use Rattle.brep_writer.proofs.plan.WritePlan.emit.Goals as goal

pub put_text-requires : goal.put_text-requires
put_text-requires g c = c.requires.plan

pub returns-clause-later : goal.returns-clause-later
returns-clause-later g c =
    let same = c.finish.ensures.handed.desk ∙ c.put_text.ensures.desk ∙ c.new-sink.ensures.same_desk in
    let back : c.finish.new.self.desk.now ≡ c.desk-1.given.0 = search (rules, same) in
    subst (λ d. g.D.Desk.faults c.args.desk.now ≤ g.D.Desk.faults d) back
    (c.texts_go_out.ensures _ _ _ _ _ _ _ _ _ c.new-sink.ensures.begins c.put_text.ensures c.finish.ensures).later

pub returns-clause-cause : goal.returns-clause-cause
returns-clause-cause g c =
    let same = c.finish.ensures.handed.desk ∙ c.put_text.ensures.desk ∙ c.new-sink.ensures.same_desk in
    let back : c.finish.new.self.desk.now ≡ c.desk-1.given.0 = search (rules, same) in
    subst (λ d. OnErr c.finish.result (Rose (g.D.Desk.faults c.args.desk.now) (g.D.Desk.faults d))) back
    (c.texts_go_out.ensures _ _ _ _ _ _ _ _ _ c.new-sink.ensures.begins c.put_text.ensures c.finish.ensures).cause

pub returns-clause-no_fault : goal.returns-clause-no_fault
returns-clause-no_fault g c =
    let same = c.finish.ensures.handed.desk ∙ c.put_text.ensures.desk ∙ c.new-sink.ensures.same_desk in
    let back : c.finish.new.self.desk.now ≡ c.desk-1.given.0 = search (rules, same) in
    subst (λ d. OnOk c.finish.result (g.D.Desk.faults d ≡ g.D.Desk.faults c.args.desk.now)) back
    (c.texts_go_out.ensures _ _ _ _ _ _ _ _ _ c.new-sink.ensures.begins c.put_text.ensures c.finish.ensures).no_fault

pub returns-clause-whole : goal.returns-clause-whole
returns-clause-whole g c =
    let same = c.finish.ensures.handed.desk ∙ c.put_text.ensures.desk ∙ c.new-sink.ensures.same_desk in
    let back : c.finish.new.self.desk.now ≡ c.desk-1.given.0 = search (rules, same) in
    subst (λ d. OnOk c.finish.result
    (AppendedAll g.D.Desk.tells (g.D.Desk.shows c.args.desk.now) (g.D.Desk.shows d) c.args.c.number
    (plan_text c.args.self.now))) back
    (c.texts_go_out.ensures _ _ _ _ _ _ _ _ _ c.new-sink.ensures.begins c.put_text.ensures c.finish.ensures).whole

pub returns-clause-length : goal.returns-clause-length
returns-clause-length g c =
    (c.texts_go_out.ensures _ _ _ _ _ _ _ _ _ c.new-sink.ensures.begins c.put_text.ensures c.finish.ensures).told

pub returns-clause-part : goal.returns-clause-part
returns-clause-part g c =
    let same = c.finish.ensures.handed.desk ∙ c.put_text.ensures.desk ∙ c.new-sink.ensures.same_desk in
    let back : c.finish.new.self.desk.now ≡ c.desk-1.given.0 = search (rules, same) in
    subst (λ d. IfErr c.finish.result (λ e. AppendedPart g.D.Desk.tells (g.D.Desk.shows c.args.desk.now)
    (g.D.Desk.shows d) c.args.c.number
    (plan_text c.args.self.now) e.taken)) back
    (c.texts_go_out.ensures _ _ _ _ _ _ _ _ _ c.new-sink.ensures.begins c.put_text.ensures c.finish.ensures).part

pub returns-clause-strays : goal.returns-clause-strays
returns-clause-strays g c =
    let same = c.finish.ensures.handed.desk ∙ c.put_text.ensures.desk ∙ c.new-sink.ensures.same_desk in
    let back : c.finish.new.self.desk.now ≡ c.desk-1.given.0 = search (rules, same) in
    subst (λ d. NoStrayOnWriting g.D.Desk.tells (g.D.Desk.shows c.args.desk.now) (g.D.Desk.shows d)
    c.args.c.number) back
    (c.texts_go_out.ensures _ _ _ _ _ _ _ _ _ c.new-sink.ensures.begins c.put_text.ensures c.finish.ensures).strays

pub returns-clause-writing_calls : goal.returns-clause-writing_calls
returns-clause-writing_calls g c =
    let same = c.finish.ensures.handed.desk ∙ c.put_text.ensures.desk ∙ c.new-sink.ensures.same_desk in
    let back : c.finish.new.self.desk.now ≡ c.desk-1.given.0 = search (rules, same) in
    subst (λ d. RoseWritingCalls g.D.Desk.tells (g.D.Desk.shows c.args.desk.now) (g.D.Desk.shows d)) back
    ((c.texts_go_out.ensures _ _ _ _ _ _ _ _ _ c.new-sink.ensures.begins c.put_text.ensures c.finish.ensures).calls
    (some-text c.args.self.now))
