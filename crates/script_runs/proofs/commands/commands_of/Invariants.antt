use Rattle.std.proofs.Common.{◌≡◌, ◌+◌, length}
use Rattle.script_text.specs.Lines.{script_lines}
use Rattle.script_text.specs.LinesLeft.{lines_left}
use Rattle.script_runs.specs.Scripts.{after_commands, lines_read, script_read}
use Rattle.script_runs.proofs.commands.commands_of.Given as goal

abbrev pub invariant-lines : goal.invariant-lines
invariant-lines l = record {
  numbered : l.line + length (lines_left l.lines) ≡ length (script_lines l.script);
  read : after_commands l.taken.items (lines_read l.shapes l.locations (l.line + 1) (lines_left l.lines))
      ≡ script_read l.shapes l.locations l.script;
}

abbrev pub decreases-lines : goal.decreases-lines
decreases-lines l = length (lines_left l.lines)
