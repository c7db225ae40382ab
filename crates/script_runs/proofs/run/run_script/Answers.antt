use Rattle.std.proofs.lemmas.Result.{err_from_is_err_and}
use Rattle.script_runs.proofs.RunLemmas.{rises-nothing, run-done, run-due, run-rises, said-over}
use Rattle.script_runs.proofs.run.run_script.Goals as goal

pub returns-in_err-commands-clause-steps : goal.returns-in_err-commands-clause-steps
returns-in_err-commands-clause-steps g c = rises-nothing c.args.file c.args.script.now c.args.steps.now

pub returns-in_err-session-clause-steps : goal.returns-in_err-session-clause-steps
returns-in_err-session-clause-steps g c = rises-nothing c.args.file c.args.script.now c.args.steps.now

pub returns-in_err-run_commands-clause-refused : goal.returns-in_err-run_commands-clause-refused
returns-in_err-run_commands-clause-refused g c =
    let p =
    err_from_is_err_and c.from_residual-in_err-run_commands.result c.from_residual-in_err-run_commands.ensures.1 in
    rw (p.1, p.2) (run-due c.args.file c.args.script.now c.in_ok-session.session c.as_slice.result.now
    c.in_ok-session.ensures.file
    c.in_ok-session.ensures.stands (said-over c.args.file c.args.script.now c.len.result c.len-locations.result
    c.in_ok-commands.commands.items c.as_slice.result.now c.len.ensures c.len-locations.ensures.len
    c.as_slice.ensures.value c.in_ok-commands.ensures.ok)
    c.in_err-run_commands.field-0.0 c.in_err-run_commands.ensures.refused)

pub returns-in_err-run_commands-clause-steps : goal.returns-in_err-run_commands-clause-steps
returns-in_err-run_commands-clause-steps g c =
    run-rises c.args.file c.args.script.now c.in_ok-session.session c.as_slice.result.now c.in_ok-session.ensures.file
    c.in_ok-session.ensures.stands (said-over c.args.file c.args.script.now c.len.result c.len-locations.result
    c.in_ok-commands.commands.items c.as_slice.result.now c.len.ensures c.len-locations.ensures.len
    c.as_slice.ensures.value c.in_ok-commands.ensures.ok)
    c.args.steps.now c.run_commands.new.steps c.run_commands.ensures.steps

pub returns-clause-done : goal.returns-clause-done
returns-clause-done g c =
    run-done c.args.file c.args.script.now c.in_ok-session.session c.as_slice.result.now c.in_ok-session.ensures.file
    c.in_ok-session.ensures.stands (said-over c.args.file c.args.script.now c.len.result c.len-locations.result
    c.in_ok-commands.commands.items c.as_slice.result.now c.len.ensures c.len-locations.ensures.len
    c.as_slice.ensures.value c.in_ok-commands.ensures.ok)
    c.run_commands.new.session c.run_commands.ensures.file c.in_ok-run_commands.ensures.done

pub returns-clause-steps : goal.returns-clause-steps
returns-clause-steps g c =
    run-rises c.args.file c.args.script.now c.in_ok-session.session c.as_slice.result.now c.in_ok-session.ensures.file
    c.in_ok-session.ensures.stands (said-over c.args.file c.args.script.now c.len.result c.len-locations.result
    c.in_ok-commands.commands.items c.as_slice.result.now c.len.ensures c.len-locations.ensures.len
    c.as_slice.ensures.value c.in_ok-commands.ensures.ok)
    c.args.steps.now c.run_commands.new.steps c.run_commands.ensures.steps
