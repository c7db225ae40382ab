use Rattle.std.proofs.Common.{◌∙◌, ◌+◌, drop, sym, arith}
use Rattle.std.proofs.lemmas.Result.{err_from_is_err_and}
use Rattle.script_runs.proofs.RunLemmas.{comes-on, first-left, lines-left-on, stops-for}
use Rattle.script_runs.proofs.run.run_commands.Goals as goal

pub returns-in_err-command-clause-refused : goal.returns-in_err-command-clause-refused
returns-in_err-command-clause-refused g c =
    let p = err_from_is_err_and c.from_residual.result c.from_residual.ensures.1 in
    let i = c.commands.it-index in
    let cs = c.args.commands.now in
    rw (p.1, p.2) (stops-for c.args.session.now c.commands.session cs c.args.steps.now c.commands.steps c.it-item.result
    (drop (i + 1) cs) (drop i cs) (first-left cs i c.it-item.result c.commands-test.true (sym c.it-item.is))
    c.commands.invariant.file c.commands.invariant.come c.in_err-command.field-0.0 c.in_err-command.ensures.refused)

pub commands-preserved : goal.commands-preserved
commands-preserved g c =
    let i = c.commands.it-index in
    let cs = c.args.commands.now in
    let left = first-left cs i c.it-item.result c.commands-test.true (sym c.it-item.is) in
    let before = c.commands.invariant.rise in
    let more = c.command.ensures.rise in
    record {
      file = c.command.ensures.file ∙ c.commands.invariant.file;
      lines =
          lines-left-on c.args.session.now.file (drop i cs) (drop (i + 1) cs) c.it-item.result left
          c.commands.invariant.lines;
      come =
          comes-on c.args.session.now c.commands.session cs c.args.steps.now c.commands.steps c.it-item.result
          (drop (i + 1) cs) (drop i cs) left c.commands.invariant.file c.commands.invariant.come c.command.new.self
          c.command.new.steps c.in_ok-command.ensures.done c.in_ok-command.ensures.accepted
          c.in_ok-command.ensures.steps;
      rise = omega (arith, before, more);
    }
