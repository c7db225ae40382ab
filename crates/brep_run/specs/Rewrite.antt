-- What a rewriting writes, what stands after it, whole or stopped, and why it is refused.
use Rattle.std.specs.Prelude.{◌≡◌, ◌⊎◌, ℕ, ◌+◌, ◌<◌, ◌≤◌, IsTrue, List, length, Some}
use Rattle.brep_desk.specs.Shown.{Shown, Tells}
use Rattle.brep_desk.specs.Strays.{IsHeldIfTold, KeepsStrays}
use Rattle.brep_desk.specs.Transfers.{IsLonger}
use Rattle.history_text.specs.declared.file.HistoryFile.{HistoryFile}
use Rattle.history_text.specs.HistoryText as history_text
use Rattle.script_text.specs.Lines.{script_line_count}
use Rattle.expansion_laws.specs.Trees.{Use}
use Rattle.brep_file.specs.declared.file.File.{File}
use Rattle.key_results.specs.declared.fault.LimitKind.{LimitKind}
use Rattle.key_results.specs.declared.fault.LimitKind.TheVariants.{FileBytes, ScriptBytes, ScriptLines}
use Rattle.script_requests.specs.declared.fault.ScriptFault.{ScriptFault}
use Rattle.brep_file.specs.Reads.{Reads}
use Rattle.brep_writer.specs.Copies.{IsTextFor}
use Rattle.brep_writer.specs.WrittenFile.{text_of}
use Rattle.session.specs.declared.fault.SessionFault.{SessionFault}
use Rattle.session.specs.declared.fault.SessionFault.TheVariants as faults
use Rattle.session.specs.States.{State, root_of}
use Rattle.script_runs.specs.Runs.{IsRun, IsRunRefused, RisesInScript}
use Rattle.written_history.specs.Numbered.{TellsSteps}
use Rattle.brep_run.specs.Copy.{Holds, OutWritten, IsCountedPrefix, FirstCounted, most_bytes}

-- the greatest numbers of bytes and of lines of a script
abbrev pub most_script_bytes : ℕ
most_script_bytes = 4194304

abbrev pub most_script_lines : ℕ
most_script_lines = 65536

-- ---- what is read

-- the source holds a file that is read
pub record HoldsFile (old : Shown) (source : List ℕ) (f : File) : Type 0 where
  pub bytes : List ℕ
  pub holds : Holds old source bytes
  pub reads : Reads bytes f

-- the name holds a script within the limits
pub record HoldsScript (old : Shown) (script lines : List ℕ) : Type 0 where
  pub held : old.held script ≡ Some lines
  pub few_bytes : length lines ≤ most_script_bytes
  pub few_lines : script_line_count lines ≤ most_script_lines

-- the file is read, and the script is carried out on it: its commands lead to a state
pub record IsAccepted (old : Shown) (source script : List ℕ) (f : File) (end : State) : Type 0 where
  pub file : HoldsFile old source f
  pub lines : List ℕ
  pub held : HoldsScript old script lines
  pub run : IsRun f lines end

-- the root that an accepted script makes of the file that is held, and the version in which it is written
abbrev pub IsRewrittenRoot : Shown → List ℕ → List ℕ → File → Use → ℕ → Type 0
IsRewrittenRoot old source script f root version =
    (end : State) × IsAccepted old source script f end × (root ≡ root_of f end) × (version ≡ end.output)

-- Where that is told, the source is held; and where it holds a file that is read, the script is held too.
pub record InputsAreHeld (t : Tells) (old : Shown) (source script : List ℕ) : Type 0 where
  pub source_held : IsHeldIfTold t old source
  pub script_held : (f : File) → HoldsFile old source f → IsHeldIfTold t old script

-- no stray call was made, where what is read is held
abbrev pub NoStrayOnInputs : Tells → Shown → Shown → List ℕ → List ℕ → Type 0
NoStrayOnInputs t old new source script = InputsAreHeld t old source script → KeepsStrays t old new

-- ---- what is written

-- The texts of a file after a script that led to a state, and of the history of its steps: the first is that of the
-- root that the steps have left, in the version that the script has set.
pub record AreTextsOf (f : File) (end : State) (text told : List ℕ) : Type 0 where
  pub written : text ≡ text_of f (root_of f end) end.output
  pub stands : IsTextFor f (root_of f end) end.output text
  pub history : (h : HistoryFile) × (told ≡ history_text.text_of h) × TellsSteps f end.steps h

-- the texts that are due for what the names hold
abbrev pub AreDue : Tells → Shown → List ℕ → List ℕ → List ℕ → List ℕ → Type 0
AreDue t old source script text told =
    IsTrue t.held → (f : File) × (end : State) × IsAccepted old source script f end × AreTextsOf f end text told

-- the one text and then the other stand whole under their names
abbrev pub BothWritten : Tells → Shown → Shown → List ℕ → List ℕ → List ℕ → List ℕ → Type 0
BothWritten t old new target text history told =
    (between : Shown) × OutWritten t old between target text × OutWritten t between new history told

abbrev pub IsRewritten : Tells → Shown → Shown → List ℕ → List ℕ → List ℕ → List ℕ → Type 0
IsRewritten t old new source script target history =
    (text : List ℕ) × (told : List ℕ) × AreDue t old source script text told
    × BothWritten t old new target text history told

-- texts of a state's root and steps stand whole under their names
abbrev pub WrittenFor : Tells → Shown → Shown → File → State → List ℕ → List ℕ → Type 0
WrittenFor t old new f end target history =
    (text : List ℕ) × (told : List ℕ) × AreTextsOf f end text told × BothWritten t old new target text history told

-- ---- a fault of writing

-- the text of the history stands whole under the name
abbrev pub HistoryWritten : Tells → Shown → Shown → List ℕ → HistoryFile → Type 0
HistoryWritten t old new name h = OutWritten t old new name (history_text.text_of h)

-- the writing of the history, which is the second output, was stopped
abbrev pub HistoryStopped : Tells → Shown → Shown → List ℕ → HistoryFile → ℕ → ℕ → Type 0
HistoryStopped t old new name h file taken =
    (file ≡ 2) × IsCountedPrefix t old new name (history_text.text_of h) taken

-- at the first output, or at the second: then the first is whole
abbrev pub IsOneStopped : Tells → Shown → Shown → List ℕ → List ℕ → List ℕ → List ℕ → ℕ → ℕ → Type 0
IsOneStopped t old new target text history told file taken =
    FirstCounted t old new target text file taken
    ⊎ ((file ≡ 2)
    × ((between : Shown) × OutWritten t old between target text × IsCountedPrefix t between new history told taken))

abbrev pub IsRewriteStopped : Tells → Shown → Shown → List ℕ → List ℕ → List ℕ → List ℕ → ℕ → ℕ → Type 0
IsRewriteStopped t old new source script target history file taken =
    (text : List ℕ) × (told : List ℕ) × AreDue t old source script text told
    × IsOneStopped t old new target text history told file taken

abbrev pub StoppedFor : Tells → Shown → Shown → File → State → List ℕ → List ℕ → ℕ → ℕ → Type 0
StoppedFor t old new f end target history file taken =
    (text : List ℕ) × (told : List ℕ) × AreTextsOf f end text told
    × IsOneStopped t old new target text history told file taken

-- ---- refusals, where it is told what the names hold

-- The file and the script are read, and the script isn't carried out, for this: the first faulty line of it, or else
-- what its first command that isn't accepted, or the end of its last step, is refused for.
abbrev pub IsRefusedRun : Tells → Shown → List ℕ → List ℕ → SessionFault → Type 0
IsRefusedRun t old source script fault = IsTrue t.held →
    (f : File) × (lines : List ℕ) × HoldsFile old source f × HoldsScript old script lines × IsRunRefused f lines fault

abbrev pub IsRefusedLine : Tells → Shown → List ℕ → List ℕ → ScriptFault → Type 0
IsRefusedLine t old source script fault = IsRefusedRun t old source script (faults.Script fault)

abbrev pub IsCycleOfRun : Tells → Shown → List ℕ → List ℕ → List ℕ → Type 0
IsCycleOfRun t old source script walk = IsRefusedRun t old source script (faults.Cycle walk)

-- the script has more lines than the limit
pub record HasMoreLines (old : Shown) (script : List ℕ) : Type 0 where
  pub lines : List ℕ
  pub held : old.held script ≡ Some lines
  pub few_bytes : length lines ≤ most_script_bytes
  pub more : most_script_lines < script_line_count lines

-- the file or the script is too long; where it is the script, the source holds a file
abbrev pub IsReadLimit : Tells → Shown → List ℕ → List ℕ → LimitKind → ℕ → Type 0
IsReadLimit t old source script FileBytes count = (count ≡ most_bytes + 1) × IsLonger t old source most_bytes
IsReadLimit t old source script ScriptBytes count =
    (count ≡ most_script_bytes + 1) × IsLonger t old script most_script_bytes
    × (IsTrue t.held → (f : File) × HoldsFile old source f)
IsReadLimit t old source script ScriptLines count =
    (count ≡ most_script_lines + 1) × (IsTrue t.held → (f : File) × HoldsFile old source f × HasMoreLines old script)
IsReadLimit t old source script _ count = ⊥

-- or else a step of the script passes the limit
abbrev pub IsRewriteLimit : Tells → Shown → List ℕ → List ℕ → LimitKind → ℕ → Type 0
IsRewriteLimit t old source script which count =
    IsReadLimit t old source script which count ⊎ IsRefusedRun t old source script (faults.Limit which count)

-- ---- the count of steps

-- It never falls, and it rises by no more than the keys of the steps that are tried of the script and the file that are
-- held.
pub record IsRewriteRise (t : Tells) (old : Shown) (source script : List ℕ) (before after : ℕ) : Type 0 where
  pub rises : before ≤ after
  pub keys : IsTrue t.held → (f : File) (lines : List ℕ) → HoldsFile old source f → HoldsScript old script lines
      → RisesInScript f lines before after
