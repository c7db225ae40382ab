use Rattle.std.proofs.Common.{sym, ap, subst, ◌∙◌}
use Rattle.brep_file.specs.PlainRecords.{plain_records, plain_root}
use Rattle.brep_run.specs.Answering.{Answers, answer_for}
use Rattle.brep_run.specs.CommandLine.{command_line_of}
use Rattle.brep_run.specs.Outcomes.{OnDone}
use Rattle.brep_run.specs.Rewrite.{IsRewrittenRoot}
use Rattle.brep_run.specs.Runs.{IsCopiedRoot, due_of}
use Rattle.brep_run.proofs.Answered.{OnDone-weaker}
use Rattle.brep_run.proofs.AnswerLaws.{copy-answers, if-told, listing-answers, rewrite-answers}
use Rattle.brep_run.proofs.CopyLaws.{copy-expands, expands-shares}
use Rattle.brep_run.proofs.RewriteLaws.{rewrite-expands}
use Rattle.brep_run.proofs.WordLaws.{written-apart}
use Rattle.brep_run.proofs.top.run.Goals as goal

pub returns-in-Copy-clause-expands : goal.returns-in-Copy-clause-expands
returns-in-Copy-clause-expands g c =
    let line = ap command_line_of (sym c.as_slice.ensures) ∙ c.in-Copy.ensures in
    subst (λ l. OnDone c.copy.result (due_of g.D.Desk.tells (g.D.Desk.shows c.args.desk.now)
    (g.D.Desk.shows c.copy.new.desk) l).expands) (sym line)
    (OnDone-weaker _ _ (copy-expands c.texts_stand_for_roots.ensures g.D.Desk.tells _ _ c.in-Copy.source.now
    c.in-Copy.target.now) c.copy.result c.copy.ensures.done)

pub returns-in-Copy-clause-shares : goal.returns-in-Copy-clause-shares
returns-in-Copy-clause-shares g c =
    let line = ap command_line_of (sym c.as_slice.ensures) ∙ c.in-Copy.ensures in
    subst (λ l. OnDone c.copy.result (due_of g.D.Desk.tells (g.D.Desk.shows c.args.desk.now)
    (g.D.Desk.shows c.copy.new.desk) l).shares) (sym line)
    (OnDone-weaker _ _ (λ done. expands-shares
    (λ f sound. c.records_are_trees.ensures (plain_records f) (plain_root f) (c.sound_files_have_trees.ensures f sound))
    g.D.Desk.tells (g.D.Desk.shows c.copy.new.desk) c.in-Copy.target.now
    (IsCopiedRoot (g.D.Desk.shows c.args.desk.now) c.in-Copy.source.now)
    (copy-expands c.texts_stand_for_roots.ensures g.D.Desk.tells (g.D.Desk.shows c.args.desk.now)
    (g.D.Desk.shows c.copy.new.desk) c.in-Copy.source.now c.in-Copy.target.now done)) c.copy.result
    c.copy.ensures.done)

pub returns-in-Copy-clause-due : goal.returns-in-Copy-clause-due
returns-in-Copy-clause-due g c =
    let line = ap command_line_of (sym c.as_slice.ensures) ∙ c.in-Copy.ensures in
    let e = c.copy.ensures in
    if-told _ _ g.D.Desk.tells.held _ c.copy.result
    (λ held. subst (λ l. Answers c.copy.result (answer_for (g.D.Desk.shows c.args.desk.now) l)
    (g.D.Desk.faults c.args.desk.now) (g.D.Desk.faults c.copy.new.desk)) (sym line)
    (copy-answers _ _ c.reading_is_exact.ensures g.D.Desk.tells _ _ _ held c.in-Copy.target.now c.copy.result e.done
    e.usage e.not_built e.file e.script e.cycle e.limit e.stopped e.counts))

pub returns-in-Lists-clause-expands : goal.returns-in-Lists-clause-expands
returns-in-Lists-clause-expands g c =
    let line = ap command_line_of (sym c.as_slice.ensures) ∙ c.in-Lists.ensures in
    subst (λ l. OnDone c.list.result (due_of g.D.Desk.tells (g.D.Desk.shows c.args.desk.now)
    (g.D.Desk.shows c.list.new.desk) l).expands) (sym line)
    (OnDone-weaker _ _ (λ done. tt) c.list.result c.list.ensures.done)

pub returns-in-Lists-clause-shares : goal.returns-in-Lists-clause-shares
returns-in-Lists-clause-shares g c =
    let line = ap command_line_of (sym c.as_slice.ensures) ∙ c.in-Lists.ensures in
    subst (λ l. OnDone c.list.result (due_of g.D.Desk.tells (g.D.Desk.shows c.args.desk.now)
    (g.D.Desk.shows c.list.new.desk) l).shares) (sym line)
    (OnDone-weaker _ _ (λ done. tt) c.list.result c.list.ensures.done)

pub returns-in-Lists-clause-due : goal.returns-in-Lists-clause-due
returns-in-Lists-clause-due g c =
    let line = ap command_line_of (sym c.as_slice.ensures) ∙ c.in-Lists.ensures in
    let e = c.list.ensures in
    if-told _ _ g.D.Desk.tells.held _ c.list.result
    (λ held. subst (λ l. Answers c.list.result (answer_for (g.D.Desk.shows c.args.desk.now) l)
    (g.D.Desk.faults c.args.desk.now) (g.D.Desk.faults c.list.new.desk)) (sym line)
    (listing-answers _ _ c.reading_is_exact.ensures g.D.Desk.tells _ _ _ held _ c.in-Lists.target.now c.list.result
    e.done e.usage e.not_built e.file e.script e.cycle e.limit e.stopped e.counts))

pub returns-in-Rewrite-clause-expands : goal.returns-in-Rewrite-clause-expands
returns-in-Rewrite-clause-expands g c =
    let line = ap command_line_of (sym c.as_slice.ensures) ∙ c.in-Rewrite.ensures in
    subst (λ l. OnDone c.rewrite.result (due_of g.D.Desk.tells (g.D.Desk.shows c.args.desk.now)
    (g.D.Desk.shows c.rewrite.new.desk) l).expands) (sym line)
    (OnDone-weaker _ _ (rewrite-expands g.D.Desk.tells _ _ _ _ _ _ (written-apart _ _ _ _ _ line)) c.rewrite.result
    c.rewrite.ensures.done)

pub returns-in-Rewrite-clause-shares : goal.returns-in-Rewrite-clause-shares
returns-in-Rewrite-clause-shares g c =
    let line = ap command_line_of (sym c.as_slice.ensures) ∙ c.in-Rewrite.ensures in
    subst (λ l. OnDone c.rewrite.result (due_of g.D.Desk.tells (g.D.Desk.shows c.args.desk.now)
    (g.D.Desk.shows c.rewrite.new.desk) l).shares) (sym line)
    (OnDone-weaker _ _ (λ done. expands-shares
    (λ f sound. c.records_are_trees.ensures (plain_records f) (plain_root f) (c.sound_files_have_trees.ensures f sound))
    g.D.Desk.tells (g.D.Desk.shows c.rewrite.new.desk) c.in-Rewrite.target.now
    (IsRewrittenRoot (g.D.Desk.shows c.args.desk.now) c.in-Rewrite.source.now c.in-Rewrite.script.now)
    (rewrite-expands g.D.Desk.tells (g.D.Desk.shows c.args.desk.now) (g.D.Desk.shows c.rewrite.new.desk)
    c.in-Rewrite.source.now c.in-Rewrite.script.now c.in-Rewrite.target.now c.in-Rewrite.history.now
    (written-apart _ _ _ _ _ line) done)) c.rewrite.result c.rewrite.ensures.done)

pub returns-in-Rewrite-clause-due : goal.returns-in-Rewrite-clause-due
returns-in-Rewrite-clause-due g c =
    let line = ap command_line_of (sym c.as_slice.ensures) ∙ c.in-Rewrite.ensures in
    let e = c.rewrite.ensures in
    if-told _ _ g.D.Desk.tells.held _ c.rewrite.result
    (λ held. subst (λ l. Answers c.rewrite.result (answer_for (g.D.Desk.shows c.args.desk.now) l)
    (g.D.Desk.faults c.args.desk.now) (g.D.Desk.faults c.rewrite.new.desk)) (sym line)
    (rewrite-answers _ _ c.reading_is_exact.ensures g.D.Desk.tells _ _ _ held _ _ _ c.rewrite.result e.done e.usage
    e.not_built e.file e.script e.cycle e.limit e.stopped e.counts))

pub returns-in-Rewrite-clause-steps : goal.returns-in-Rewrite-clause-steps
returns-in-Rewrite-clause-steps g c =
    let line = ap command_line_of (sym c.as_slice.ensures) ∙ c.in-Rewrite.ensures in
    subst (λ l. (due_of g.D.Desk.tells (g.D.Desk.shows c.args.desk.now) (g.D.Desk.shows c.rewrite.new.desk) l).rises
    c.args.steps.now c.rewrite.new.steps) (sym line) c.rewrite.ensures.steps
