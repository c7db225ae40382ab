-- All ways to carry out one script agree. There are several, since the trees for which a name stands have no order, and
-- so the requests of a step come in one order or another.
use Rattle.std.specs.Prelude.{◌≡◌, ◌⊎◌, ℕ, List}
use Rattle.key_results.specs.declared.fault.LimitKind.{LimitKind}
use Rattle.key_results.specs.declared.fault.LimitKind.TheVariants.{Keys, WordPairs, WordPower}
use Rattle.brep_file.specs.declared.file.File.{File}
use Rattle.session.specs.declared.fault.SessionFault.{SessionFault}
use Rattle.session.specs.declared.fault.SessionFault.TheVariants.{Limit}
use Rattle.session.specs.States.{State, first_state, root_of, history_of}
use Rattle.step_history.specs.Composition.{TellTheSame}
use Rattle.history_text.specs.declared.file.HistoryFile.{HistoryFile}
use Rattle.written_history.specs.Numbered.{TellsSteps}
use Rattle.script_runs.specs.Runs.{RunsTo, StopsFor, IsRun, IsRunRefused}

-- a limit of the words of a step: of the keys that hold one, or of one word
abbrev pub IsOfWords : LimitKind → Type 0
IsOfWords Keys = Unit {0}
IsOfWords WordPairs = Unit {0}
IsOfWords WordPower = Unit {0}
IsOfWords _ = ⊥

abbrev pub TellsOfWords : SessionFault → Type 0
TellsOfWords (Limit which n) = IsOfWords which
TellsOfWords _ = ⊥

-- Two faults are one, or both tell of words: the words of a step have no order, and where some are past limits, one of
-- them is told.
abbrev pub FaultsAgree : SessionFault → SessionFault → Type 0
FaultsAgree a b = (a ≡ b) ⊎ (TellsOfWords a × TellsOfWords b)

-- Two states have the same root, which is written in the same version, and tell the same history, of which there is one
-- file.
pub record EndsAgree (f : File) (a b : State) : Type 0 where
  pub root : root_of f a ≡ root_of f b
  pub version : a.output ≡ b.output
  pub history : TellTheSame (history_of f a) (history_of f b)
  pub history_file : (h k : HistoryFile) → TellsSteps f a.steps h → TellsSteps f b.steps k → h ≡ k

-- the commands of lines aren't both carried out and refused; all ways to carry them out end alike, and the faults for
-- which they are refused agree
pub record RunsAgree (f : File) : Type 0 where
  pub apart : (cs : _) (end : State) (fault : SessionFault) → RunsTo f (first_state f) cs end →
      StopsFor f (first_state f) cs fault → ⊥
  pub ends : (cs : _) (a b : State) → RunsTo f (first_state f) cs a → RunsTo f (first_state f) cs b →
      EndsAgree f a b
  pub faults : (cs : _) (a b : SessionFault) → StopsFor f (first_state f) cs a →
      StopsFor f (first_state f) cs b → FaultsAgree a b

-- the same of a whole script, whose lines are read first
pub record ScriptsAgree (f : File) (bytes : List ℕ) : Type 0 where
  pub apart : (end : State) (fault : SessionFault) → IsRun f bytes end → IsRunRefused f bytes fault → ⊥
  pub ends : (a b : State) → IsRun f bytes a → IsRun f bytes b → EndsAgree f a b
  pub faults : (a b : SessionFault) → IsRunRefused f bytes a → IsRunRefused f bytes b → FaultsAgree a b
