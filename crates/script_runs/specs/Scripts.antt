-- What a script says, line by line.
use Rattle.std.specs.Prelude.{◌≡◌, ℕ, ◌+◌, All, List, [], ◌∷◌, ◌++◌, Option, Some, None, Result, Ok, Err, length}
use Rattle.script_text.specs.Lines.{script_lines}
use Rattle.script_text.specs.Meaning.{command_of_line}
use Rattle.script_text.specs.Writing.{HasLine}
use Rattle.script_text.specs.declared.command.Command.{Command}
use Rattle.script_text.specs.declared.command.LineFault.{LineFault}
use Rattle.script_text.specs.declared.command.LineFault.TheVariants as faults
use Rattle.brep_file.specs.declared.file.File.{File}
use Rattle.script_requests.specs.declared.fault.ScriptCode.TheVariants as codes
use Rattle.script_requests.specs.declared.fault.ScriptFault.{ScriptFault}
use Rattle.script_requests.specs.Refusals.{told}
use Rattle.script_runs.specs.declared.commands.LineCommand.{LineCommand}

pub data ScriptRead : Type 0 where
  -- the commands of the lines, in their order, each with the number of its line
  commands : List LineCommand → ScriptRead
  -- the number of the first faulty line, and its fault
  faulty_line : ℕ → LineFault → ScriptRead

-- these commands before what the lines after them say
abbrev pub after_commands : List LineCommand → ScriptRead → ScriptRead
after_commands first (commands cs) = commands (first ++ cs)
after_commands first (faulty_line line f) = faulty_line line f

-- a line with its number, before what the lines after it say
abbrev pub with_line : ℕ → Result (Option Command) LineFault → ScriptRead → ScriptRead
with_line line (Ok None) rest = rest
with_line line (Ok (Some c)) rest = after_commands (record { line = line; command = c } ∷ []) rest
with_line line (Err f) rest = faulty_line line f

abbrev pub lines_read : ℕ → ℕ → ℕ → List (List ℕ) → ScriptRead
lines_read shapes locations line [] = commands []
lines_read shapes locations line (l ∷ ls) =
    with_line line (command_of_line shapes locations l) (lines_read shapes locations (line + 1) ls)

-- what the bytes of a script say, over so many records and locations of a file; a faulty line decides, whatever stands
-- in the lines before it
unfoldable pub script_read : ℕ → ℕ → List ℕ → ScriptRead
script_read shapes locations bytes = lines_read shapes locations 1 (script_lines bytes)

-- and over a file
abbrev pub read_for : File → List ℕ → ScriptRead
read_for f bytes = script_read (length f.records) (length f.locations) bytes

-- each command is one that a line gives, over so many records and locations
abbrev pub AreLines : ℕ → ℕ → List LineCommand → Type 0
AreLines shapes locations cs = All (λ (c : LineCommand). HasLine shapes locations c.command) cs

-- ---- the fault of a line, as it is told
abbrev pub IsTold : ℕ → ℕ → ℕ → LineFault → ScriptFault → Type 0
IsTold shapes locations line faults.Syntax fault = fault ≡ told line codes.Syntax 0 0
IsTold shapes locations line (faults.NoSuchShape n) fault = fault ≡ told line codes.NoSuchShape n shapes
IsTold shapes locations line (faults.NoSuchLocation n) fault = fault ≡ told line codes.NoSuchLocation n locations
IsTold shapes locations line faults.NoMemory fault = ⊥

-- the script is refused for the fault of its first faulty line
abbrev pub IsLineRefused : File → List ℕ → ScriptFault → Type 0
IsLineRefused f bytes fault =
    (line : ℕ) × (e : LineFault) × (read_for f bytes ≡ faulty_line line e) ×
    IsTold (length f.records) (length f.locations) line e fault
