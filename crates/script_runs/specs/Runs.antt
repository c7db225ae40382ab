-- How a script is carried out: its commands one after another, and then the end of the last step.
use Rattle.std.specs.Prelude.{◌≡◌, ◌⊎◌, ℕ, List, [], ◌∷◌, length}
use Rattle.script_text.specs.declared.command.Command.{Command}
use Rattle.script_text.specs.declared.command.Command.TheVariants.{Apply}
use Rattle.brep_file.specs.declared.file.File.{File}
use Rattle.session.specs.declared.fault.SessionFault.{SessionFault}
use Rattle.session.specs.declared.fault.SessionFault.TheVariants.{Script, NoMemory}
use Rattle.session.specs.Carrying.{Carries}
use Rattle.session.specs.Commands.{RisesBy}
use Rattle.session.specs.Refusals.{IsRefused}
use Rattle.session.specs.Standing.{Stands}
use Rattle.session.specs.States.{State, first_state}
use Rattle.session.specs.Views.{View}
use Rattle.script_runs.specs.declared.commands.LineCommand.{LineCommand}
use Rattle.script_runs.specs.Scripts.{AreLines, IsLineRefused, ScriptRead, commands, faulty_line, read_for}

-- a command in the line with a number is accepted, and takes a state to the next one
pub record Passes (f : File) (s : State) (line : ℕ) (c : Command) (next : State) : Type 0 where
  pub accepted : (fault : SessionFault) → IsRefused f s line c fault → ⊥
  pub carries : Carries f s c next

-- Commands take a state to the last one: each is accepted in its turn, and behind the last of them the step ends.
abbrev pub RunsTo : File → State → List LineCommand → State → Type 0
RunsTo f s [] end = Passes f s 0 Apply end
RunsTo f s (c ∷ cs) end = (next : State) × Passes f s c.line c.command next × RunsTo f next cs end

-- the first of them that isn't accepted, or the end of the step behind them, is refused for this
abbrev pub StopsFor : File → State → List LineCommand → SessionFault → Type 0
StopsFor f s [] fault = IsRefused f s 0 Apply fault
StopsFor f s (c ∷ cs) fault =
    IsRefused f s c.line c.command fault ⊎
    ((next : State) × Passes f s c.line c.command next × StopsFor f next cs fault)

-- a count rises by no more than the keys of the steps that are tried
abbrev pub RisesInRun : File → State → List LineCommand → ℕ → ℕ → Type 0
RisesInRun f s [] old new = RisesBy f s Apply old new
RisesInRun f s (c ∷ cs) old new =
    RisesBy f s c.command old new ⊎
    ((next : State) × (between : ℕ) × RisesBy f s c.command old between × Passes f s c.line c.command next ×
    RisesInRun f next cs between new)

-- ---- a whole script over a file

-- its commands lead to a state
abbrev pub IsRun : File → List ℕ → State → Type 0
IsRun f bytes end = (cs : List LineCommand) × (read_for f bytes ≡ commands cs) × RunsTo f (first_state f) cs end

-- it is refused: a line is faulty, or else a command or the end of the last step isn't carried out
abbrev pub IsRunRefused : File → List ℕ → SessionFault → Type 0
IsRunRefused f bytes fault =
    ((told : _) × (fault ≡ Script told) × IsLineRefused f bytes told) ⊎
    ((cs : List LineCommand) × (read_for f bytes ≡ commands cs) × StopsFor f (first_state f) cs fault)

-- a session stands for the state to which a script leads
pub record IsAfterRun (f : File) (bytes : List ℕ) (v : View) : Type 0 where
  pub file : v.file ≡ f
  pub end : State
  pub run : IsRun f bytes end
  pub stands : Stands v end

-- for this, or want of memory
abbrev pub IsDueRefusal : File → List ℕ → SessionFault → Type 0
IsDueRefusal f bytes fault = (fault ≡ NoMemory) ⊎ IsRunRefused f bytes fault

-- no step is tried where a line is faulty, and the count stays
abbrev pub RisesBySaid : File → ScriptRead → ℕ → ℕ → Type 0
RisesBySaid f (commands cs) old new = RisesInRun f (first_state f) cs old new
RisesBySaid f (faulty_line line e) old new = new ≡ old

abbrev pub RisesInScript : File → List ℕ → ℕ → ℕ → Type 0
RisesInScript f bytes old new = RisesBySaid f (read_for f bytes) old new

-- ---- while it is carried out

-- each command is one that a line gives, over the file
abbrev pub HaveLines : File → List LineCommand → Type 0
HaveLines f cs = AreLines (length f.records) (length f.locations) cs

-- the commands are refused for this, or for want of memory
abbrev pub IsDueStop : File → State → List LineCommand → SessionFault → Type 0
IsDueStop f s cs fault = (fault ≡ NoMemory) ⊎ StopsFor f s cs fault
