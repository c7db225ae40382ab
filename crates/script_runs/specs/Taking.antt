-- Lines that are taken one after another.
use Rattle.std.specs.Prelude.{◌≡◌, ℕ, List}
use Rattle.script_text.specs.Meaning.{command_of_line}
use Rattle.script_text.specs.declared.command.LineFault.{LineFault}
use Rattle.script_text.specs.declared.command.LineFault.TheVariants as faults
use Rattle.session.specs.declared.fault.SessionFault.{SessionFault}
use Rattle.session.specs.declared.fault.SessionFault.TheVariants.{Script, Cycle, Limit, NoMemory}
use Rattle.script_runs.specs.declared.commands.LineCommand.{LineCommand}
use Rattle.script_runs.specs.Scripts.{ScriptRead, faulty_line, after_commands, with_line, IsTold}

-- what a script says: these commands, then the line with a number, and then the rest
abbrev pub said_with : ℕ → ℕ → List LineCommand → ℕ → List ℕ → ScriptRead → ScriptRead
said_with shapes locations before line bytes rest =
    after_commands before (with_line line (command_of_line shapes locations bytes) rest)

-- the line turns the commands before it into these
abbrev pub TakesLine : ℕ → ℕ → List LineCommand → List LineCommand → ℕ → List ℕ → Type 0
TakesLine shapes locations before after line bytes =
    (rest : ScriptRead) → said_with shapes locations before line bytes rest ≡ after_commands after rest

-- the fault of a line is told, or that memory ran out
abbrev pub IsStopAt : ℕ → ℕ → ℕ → LineFault → SessionFault → Type 0
IsStopAt shapes locations line e (Script fault) = IsTold shapes locations line e fault
IsStopAt shapes locations line e NoMemory = e ≡ faults.NoMemory
IsStopAt shapes locations line e (Cycle walk) = ⊥
IsStopAt shapes locations line e (Limit which n) = ⊥

-- why a script was refused, unless memory ran out
abbrev pub IsStopOf : ℕ → ℕ → ScriptRead → SessionFault → Type 0
IsStopOf shapes locations said (Script fault) =
    (line : ℕ) × (e : LineFault) × (said ≡ faulty_line line e) × IsTold shapes locations line e fault
IsStopOf shapes locations said NoMemory = Unit {0}
IsStopOf shapes locations said (Cycle walk) = ⊥
IsStopOf shapes locations said (Limit which n) = ⊥

-- the script is refused at the line with this number, whatever comes after it
abbrev pub StopsAtLine : ℕ → ℕ → List LineCommand → ℕ → List ℕ → SessionFault → Type 0
StopsAtLine shapes locations before line bytes stop =
    (rest : ScriptRead) → IsStopOf shapes locations (said_with shapes locations before line bytes rest) stop
