use Rattle.std.proofs.Common.{◌∙◌, ◌+◌, ap, sym, subst, length, arith}
use Rattle.std.proofs.lemmas.Result.{err_from_is_err_and}
use Rattle.script_text.specs.LinesLeft.{lines_left}
use Rattle.script_runs.specs.Scripts.{after_commands, lines_read, script_read}
use Rattle.script_runs.specs.Taking.{IsStopOf}
use Rattle.script_runs.proofs.ScriptLemmas.{read-end, read-start, script-lined}
use Rattle.script_runs.proofs.commands.commands_of.Goals as goal

pub lines-init : goal.lines-init
lines-init c = record {
  numbered = (let all = ap length c.lines_of-lines.ensures in omega (arith, all));
  read =
      read-start c.args.shapes c.args.locations c.args.script.now _ _ c.new-taken.ensures.items
      c.lines_of-lines.ensures;
}

pub returns-in_err-take_line-clause-err : goal.returns-in_err-take_line-clause-err
returns-in_err-take_line-clause-err c =
    let p = err_from_is_err_and c.from_residual.result c.from_residual.ensures.1 in
    rw (p.1, p.2) (subst (λ said. IsStopOf c.args.shapes c.args.locations said c.in_err-take_line.field-0.0)
    (ap (λ ls. after_commands c.lines.taken.items (lines_read c.args.shapes c.args.locations (c.lines.line + 1) ls))
    (sym c.in-Some.ensures.steps) ∙ c.lines.invariant.read)
    (c.in_err-take_line.ensures.err (lines_read c.args.shapes c.args.locations (c.lines.line + 1 + 1)
    (lines_left c.next.new.self))))

pub returns-clause-lines : goal.returns-clause-lines
returns-clause-lines c =
    let few_shapes = c.ranges.shapes.fits in
    let few_locations = c.ranges.locations.fits in
    script-lined c.args.shapes c.args.locations
    (c.commands_have_lines.ensures c.args.shapes c.args.locations (omega (arith, few_shapes))
    (omega (arith, few_locations))) c.args.script.now c.lines.taken.items
    (read-end c.args.shapes c.args.locations (c.lines.line + 1) c.lines.taken.items (lines_left c.lines.lines)
    (script_read c.args.shapes c.args.locations c.args.script.now) c.in_default.ensures.steps.0
    c.lines.invariant.read)
