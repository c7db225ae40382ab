-- The lines that are still to be given.
use Rattle.std.specs.Prelude.{ℕ, List}
use Rattle.script_text.specs.Lines.{script_lines}
use Rattle.script_text.specs.declared.lines.Lines.{Lines}

abbrev pub lines_left : Lines → List (List ℕ)
lines_left lines = script_lines lines.rest.now
