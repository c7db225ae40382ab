use Rattle.std.proofs.Common.{sym, subst}
use Rattle.brep_desk.specs.Strays.{KeepsStrays}
use Rattle.brep_desk.specs.Transfers.{NothingWritten}
use Rattle.brep_desk.specs.WritingCalls.{KeepsWritingCalls}
use Rattle.brep_file.specs.declared.file.File.{File}
use Rattle.script_runs.specs.Runs.{IsRun, RisesInScript}
use Rattle.brep_run.specs.Inputs.{IsRunStop}
use Rattle.brep_run.specs.Outcomes.{IfStopped, OnDone}
use Rattle.brep_run.specs.Rewrite.{StoppedFor, WrittenFor}
use Rattle.brep_run.proofs.CallCounts.{counts-after, kept-kept, rose-after_reads, up-both}
use Rattle.brep_run.proofs.Reading.{cycle-refused, closed-both, done-after, limit-refused, limited-before, quiet-both}
use Rattle.brep_run.proofs.Reading.{script-before, script-held, script-refused, stopped-after, strays-both}
use Rattle.brep_run.proofs.Rises.{run-rise, stays-rise}
use Rattle.brep_run.proofs.rewrite.rewrite.Goals as goal

pub returns-in-Err-read_script-clause-limit : goal.returns-in-Err-read_script-clause-limit
returns-in-Err-read_script-clause-limit g c =
    limited-before g.D.Desk.tells (g.D.Desk.shows c.args.desk.now) _ c.in-Ok.ensures.quiet c.args.source.now
    c.args.script.now c.in-Ok.file c.in-Ok.ensures.read _ _ _ c.in-Err-read_script.ensures.stop

pub returns-in-Err-carried_out-clause-script : goal.returns-in-Err-carried_out-clause-script
returns-in-Err-carried_out-clause-script g c =
    script-refused g.D.Desk.tells (g.D.Desk.shows c.args.desk.now) c.args.source.now c.args.script.now _ c.in-Ok.file
    c.in-Ok.ensures.read
    (script-before g.D.Desk.tells (g.D.Desk.shows c.args.desk.now) _ c.args.script.now _ c.in-Ok.ensures.quiet
    c.in-Ok-read_script.ensures.read) _
    (subst (λ ls. IsRunStop c.in-Ok.file ls c.in-Err-carried_out.stop) c.deref.ensures.value
    c.in-Err-carried_out.ensures.stop)

pub returns-in-Err-carried_out-clause-cycle : goal.returns-in-Err-carried_out-clause-cycle
returns-in-Err-carried_out-clause-cycle g c =
    cycle-refused g.D.Desk.tells (g.D.Desk.shows c.args.desk.now) c.args.source.now c.args.script.now _ c.in-Ok.file
    c.in-Ok.ensures.read
    (script-before g.D.Desk.tells (g.D.Desk.shows c.args.desk.now) _ c.args.script.now _ c.in-Ok.ensures.quiet
    c.in-Ok-read_script.ensures.read) _
    (subst (λ ls. IsRunStop c.in-Ok.file ls c.in-Err-carried_out.stop) c.deref.ensures.value
    c.in-Err-carried_out.ensures.stop)

pub returns-in-Err-carried_out-clause-limit : goal.returns-in-Err-carried_out-clause-limit
returns-in-Err-carried_out-clause-limit g c =
    limit-refused g.D.Desk.tells (g.D.Desk.shows c.args.desk.now) c.args.source.now c.args.script.now _ c.in-Ok.file
    c.in-Ok.ensures.read
    (script-before g.D.Desk.tells (g.D.Desk.shows c.args.desk.now) _ c.args.script.now _ c.in-Ok.ensures.quiet
    c.in-Ok-read_script.ensures.read) _
    (subst (λ ls. IsRunStop c.in-Ok.file ls c.in-Err-carried_out.stop) c.deref.ensures.value
    c.in-Err-carried_out.ensures.stop)

pub returns-in-Err-clause-steps : goal.returns-in-Err-clause-steps
returns-in-Err-clause-steps g c =
    stays-rise g.D.Desk.tells (g.D.Desk.shows c.args.desk.now) c.args.source.now c.args.script.now c.args.steps.now

pub returns-in-Err-read_script-clause-steps : goal.returns-in-Err-read_script-clause-steps
returns-in-Err-read_script-clause-steps g c =
    stays-rise g.D.Desk.tells (g.D.Desk.shows c.args.desk.now) c.args.source.now c.args.script.now c.args.steps.now

pub returns-in-Err-carried_out-clause-steps : goal.returns-in-Err-carried_out-clause-steps
returns-in-Err-carried_out-clause-steps g c =
    run-rise c.reading_is_exact.ensures (g.D.Desk.shows c.args.desk.now) g.D.Desk.tells c.args.source.now
    c.args.script.now c.in-Ok.file c.in-Ok-read_script.lines.items c.in-Ok.ensures.read
    (script-before g.D.Desk.tells (g.D.Desk.shows c.args.desk.now) _ c.args.script.now _ c.in-Ok.ensures.quiet
    c.in-Ok-read_script.ensures.read) c.args.steps.now
    c.carried_out.new.steps c.carried_out.ensures.rise
    (subst (λ ls. RisesInScript c.in-Ok.file ls c.args.steps.now c.carried_out.new.steps) c.deref.ensures.value
    c.carried_out.ensures.steps)

pub returns-in-Ok-write_session-clause-steps : goal.returns-in-Ok-write_session-clause-steps
returns-in-Ok-write_session-clause-steps g c =
    run-rise c.reading_is_exact.ensures (g.D.Desk.shows c.args.desk.now) g.D.Desk.tells c.args.source.now
    c.args.script.now c.in-Ok.file c.in-Ok-read_script.lines.items c.in-Ok.ensures.read
    (script-before g.D.Desk.tells (g.D.Desk.shows c.args.desk.now) _ c.args.script.now _ c.in-Ok.ensures.quiet
    c.in-Ok-read_script.ensures.read) c.args.steps.now
    c.carried_out.new.steps c.carried_out.ensures.rise
    (subst (λ ls. RisesInScript c.in-Ok.file ls c.args.steps.now c.carried_out.new.steps) c.deref.ensures.value
    c.carried_out.ensures.steps)

pub returns-in-Ok-write_session-clause-done : goal.returns-in-Ok-write_session-clause-done
returns-in-Ok-write_session-clause-done g c =
    let after = c.in-Ok-carried_out.ensures.done in
    done-after g.D.Desk.tells (g.D.Desk.shows c.args.desk.now) (g.D.Desk.shows c.read_script.new.desk)
    (g.D.Desk.shows c.write_session.new.desk)
    (quiet-both _ _ _ _ c.in-Ok.ensures.quiet c.in-Ok-read_script.ensures.quiet)
    (λ o. closed-both (g.D.Desk.shows c.args.desk.now) (g.D.Desk.shows c.read_input.new.desk)
    (g.D.Desk.shows c.read_script.new.desk) (c.in-Ok.ensures.closes o) (c.in-Ok-read_script.ensures.closes o))
    c.args.source.now c.args.script.now c.args.target.now c.args.history.now c.in-Ok-read_script.lines.items
    c.in-Ok.file after.end c.in-Ok.ensures.read
    (script-before g.D.Desk.tells (g.D.Desk.shows c.args.desk.now) _ c.args.script.now _ c.in-Ok.ensures.quiet
    c.in-Ok-read_script.ensures.read)
    (subst (λ ls. IsRun c.in-Ok.file ls after.end) c.deref.ensures.value after.run) c.in-Ok-write_session.outcome
    (subst (λ (f : File). OnDone c.in-Ok-write_session.outcome (WrittenFor g.D.Desk.tells
    (g.D.Desk.shows c.read_script.new.desk) (g.D.Desk.shows c.write_session.new.desk) f after.end c.args.target.now
    c.args.history.now)) after.file (c.in-Ok-write_session.ensures.done after.end after.stands))

pub returns-in-Ok-write_session-clause-stopped : goal.returns-in-Ok-write_session-clause-stopped
returns-in-Ok-write_session-clause-stopped g c =
    let after = c.in-Ok-carried_out.ensures.done in
    stopped-after g.D.Desk.tells (g.D.Desk.shows c.args.desk.now) (g.D.Desk.shows c.read_script.new.desk)
    (g.D.Desk.shows c.write_session.new.desk)
    (quiet-both _ _ _ _ c.in-Ok.ensures.quiet c.in-Ok-read_script.ensures.quiet)
    (λ o. closed-both (g.D.Desk.shows c.args.desk.now) (g.D.Desk.shows c.read_input.new.desk)
    (g.D.Desk.shows c.read_script.new.desk) (c.in-Ok.ensures.closes o) (c.in-Ok-read_script.ensures.closes o))
    c.args.source.now c.args.script.now c.args.target.now c.args.history.now c.in-Ok-read_script.lines.items
    c.in-Ok.file after.end c.in-Ok.ensures.read
    (script-before g.D.Desk.tells (g.D.Desk.shows c.args.desk.now) _ c.args.script.now _ c.in-Ok.ensures.quiet
    c.in-Ok-read_script.ensures.read)
    (subst (λ ls. IsRun c.in-Ok.file ls after.end) c.deref.ensures.value after.run) c.in-Ok-write_session.outcome
    (subst (λ (f : File). IfStopped c.in-Ok-write_session.outcome (StoppedFor g.D.Desk.tells
    (g.D.Desk.shows c.read_script.new.desk) (g.D.Desk.shows c.write_session.new.desk) f after.end c.args.target.now
    c.args.history.now)) after.file (c.in-Ok-write_session.ensures.stopped after.end after.stands))

pub returns-in-Ok-write_session-clause-counts : goal.returns-in-Ok-write_session-clause-counts
returns-in-Ok-write_session-clause-counts g c =
    counts-after _ _ _ c.in-Ok-write_session.outcome
    (up-both _ _ _ c.in-Ok.ensures.later c.in-Ok-read_script.ensures.later) c.in-Ok-write_session.ensures.counts

pub returns-in-Ok-write_session-clause-calls_rose : goal.returns-in-Ok-write_session-clause-calls_rose
returns-in-Ok-write_session-clause-calls_rose g c =
    rose-after_reads g.D.Desk.tells (g.D.Desk.shows c.args.desk.now) (g.D.Desk.shows c.read_input.new.desk)
    (g.D.Desk.shows c.read_script.new.desk) (g.D.Desk.shows c.write_session.new.desk) c.in-Ok-write_session.outcome
    c.in-Ok.ensures.writing_calls c.in-Ok-read_script.ensures.writing_calls
    c.in-Ok-write_session.ensures.writing_calls

pub returns-in-Err-clause-strays : goal.returns-in-Err-clause-strays
returns-in-Err-clause-strays g c = λ inputs. c.in-Err.ensures.strays inputs.source_held

pub returns-in-Err-read_script-clause-strays : goal.returns-in-Err-read_script-clause-strays
returns-in-Err-read_script-clause-strays g c = λ inputs.
    let first = c.in-Ok.ensures in
    let held =
    script-held g.D.Desk.tells (g.D.Desk.shows c.args.desk.now) (g.D.Desk.shows c.read_input.new.desk)
    c.args.source.now c.args.script.now c.in-Ok.file first.quiet first.read inputs in
    strays-both g.D.Desk.tells (g.D.Desk.shows c.args.desk.now) (g.D.Desk.shows c.read_input.new.desk)
    (g.D.Desk.shows c.read_script.new.desk) (first.strays inputs.source_held)
    (c.in-Err-read_script.ensures.strays held)

pub returns-in-Err-carried_out-clause-strays : goal.returns-in-Err-carried_out-clause-strays
returns-in-Err-carried_out-clause-strays g c = λ inputs.
    let first = c.in-Ok.ensures in
    let held =
    script-held g.D.Desk.tells (g.D.Desk.shows c.args.desk.now) (g.D.Desk.shows c.read_input.new.desk)
    c.args.source.now c.args.script.now c.in-Ok.file first.quiet first.read inputs in
    strays-both g.D.Desk.tells (g.D.Desk.shows c.args.desk.now) (g.D.Desk.shows c.read_input.new.desk)
    (g.D.Desk.shows c.read_script.new.desk) (first.strays inputs.source_held)
    (c.in-Ok-read_script.ensures.strays held)

pub returns-in-Ok-write_session-clause-strays : goal.returns-in-Ok-write_session-clause-strays
returns-in-Ok-write_session-clause-strays g c = λ inputs.
    let first = c.in-Ok.ensures in
    let held =
    script-held g.D.Desk.tells (g.D.Desk.shows c.args.desk.now) (g.D.Desk.shows c.read_input.new.desk)
    c.args.source.now c.args.script.now c.in-Ok.file first.quiet first.read inputs in
    let both =
    strays-both g.D.Desk.tells (g.D.Desk.shows c.args.desk.now) (g.D.Desk.shows c.read_input.new.desk)
    (g.D.Desk.shows c.read_script.new.desk) (first.strays inputs.source_held)
    (c.in-Ok-read_script.ensures.strays held) in
    strays-both g.D.Desk.tells (g.D.Desk.shows c.args.desk.now) (g.D.Desk.shows c.read_script.new.desk)
    (g.D.Desk.shows c.write_session.new.desk) both c.in-Ok-write_session.ensures.strays

pub returns-clause-quiet : goal.returns-clause-quiet
returns-clause-quiet g c =
    subst (λ d. NothingWritten g.D.Desk.tells (g.D.Desk.shows c.args.desk.now) (g.D.Desk.shows d))
    (sym c.in-Err-write_session.ensures.untouched)
    (quiet-both _ _ _ _ c.in-Ok.ensures.quiet c.in-Ok-read_script.ensures.quiet)

pub returns-clause-strays : goal.returns-clause-strays
returns-clause-strays g c = λ inputs.
    let first = c.in-Ok.ensures in
    let held =
    script-held g.D.Desk.tells (g.D.Desk.shows c.args.desk.now) (g.D.Desk.shows c.read_input.new.desk)
    c.args.source.now c.args.script.now c.in-Ok.file first.quiet first.read inputs in
    subst (λ d. KeepsStrays g.D.Desk.tells (g.D.Desk.shows c.args.desk.now) (g.D.Desk.shows d))
    (sym c.in-Err-write_session.ensures.untouched)
    (strays-both g.D.Desk.tells (g.D.Desk.shows c.args.desk.now) (g.D.Desk.shows c.read_input.new.desk)
    (g.D.Desk.shows c.read_script.new.desk) (first.strays inputs.source_held)
    (c.in-Ok-read_script.ensures.strays held))

pub returns-clause-calls_kept : goal.returns-clause-calls_kept
returns-clause-calls_kept g c =
    subst (λ d. KeepsWritingCalls g.D.Desk.tells (g.D.Desk.shows c.args.desk.now) (g.D.Desk.shows d))
    (sym c.in-Err-write_session.ensures.untouched)
    (kept-kept g.D.Desk.tells (g.D.Desk.shows c.args.desk.now) (g.D.Desk.shows c.read_input.new.desk)
    (g.D.Desk.shows c.read_script.new.desk) c.in-Ok.ensures.writing_calls c.in-Ok-read_script.ensures.writing_calls)

pub returns-clause-steps : goal.returns-clause-steps
returns-clause-steps g c =
    run-rise c.reading_is_exact.ensures (g.D.Desk.shows c.args.desk.now) g.D.Desk.tells c.args.source.now
    c.args.script.now c.in-Ok.file c.in-Ok-read_script.lines.items c.in-Ok.ensures.read
    (script-before g.D.Desk.tells (g.D.Desk.shows c.args.desk.now) _ c.args.script.now _ c.in-Ok.ensures.quiet
    c.in-Ok-read_script.ensures.read) c.args.steps.now c.carried_out.new.steps c.carried_out.ensures.rise
    (subst (λ ls. RisesInScript c.in-Ok.file ls c.args.steps.now c.carried_out.new.steps) c.deref.ensures.value
    c.carried_out.ensures.steps)
