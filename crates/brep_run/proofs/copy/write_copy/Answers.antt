use Rattle.std.proofs.Common.{ap, subst, sym, length, ℕ, ◌∙◌, ◌≡◌, ◌<◌, ◌^◌}
use Rattle.brep_file.specs.PlainRecords.{expansion_of}
use Rattle.brep_writer.specs.Plans.{plan_text}
use Rattle.brep_run.specs.Copy.{FirstStopped, OutWritten}
use Rattle.brep_run.specs.Outcomes.{IfStopped, OnDone}
use Rattle.brep_writer.specs.OwnVersion.{text_of}
use Rattle.brep_run.proofs.Stopping.{first-counted}
use Rattle.brep_run.proofs.copy.write_copy.Goals as goal

pub returns-clause-done : goal.returns-clause-done
returns-clause-done g c =
    let f = c.args.file.now in
    let same : plan_text c.in_ok-plan.plan ≡ text_of f (expansion_of f) =
    c.in_ok-plan.ensures.text ∙ ap (text_of f) c.in_ok-loaded.ensures.root in
    subst (λ text. OnDone c.write_plan.result (OutWritten g.D.Desk.tells (g.D.Desk.shows c.args.desk.now)
    (g.D.Desk.shows c.write_plan.new.desk) c.args.target.now text)) same c.write_plan.ensures.done

pub returns-clause-stopped : goal.returns-clause-stopped
returns-clause-stopped g c =
    let f = c.args.file.now in
    let same : plan_text c.in_ok-plan.plan ≡ text_of f (expansion_of f) =
    c.in_ok-plan.ensures.text ∙ ap (text_of f) c.in_ok-loaded.ensures.root in
    subst (λ text. IfStopped c.write_plan.result (FirstStopped g.D.Desk.tells (g.D.Desk.shows c.args.desk.now)
    (g.D.Desk.shows c.write_plan.new.desk) c.args.target.now text)) same
    (first-counted _ _ _ _ _ (subst (λ (n : ℕ). n < 2 ^ 64) (ap length (sym same))
    (c.copies_are_countable.ensures f c.requires.few)) c.write_plan.result c.write_plan.ensures.stopped)
