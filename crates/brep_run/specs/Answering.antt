-- What a run answers for what the names that it reads hold, where no call of the desk fails and memory is there.
use Rattle.std.specs.Prelude.{◌≡◌, ◌⊎◌, ℕ, ◌+◌, if◌then◌else◌, nat_lt, List}
use Rattle.std.specs.Prelude.{length, Option, Some, None, Result, Ok, Err}
use Rattle.brep_desk.specs.Shown.{Shown, Tells}
use Rattle.brep_desk.specs.Causes.{Rose}
use Rattle.brep_tokens.specs.declared.fault.ReadFault.{ReadFault}
use Rattle.brep_file.specs.declared.file.File.{File}
use Rattle.brep_file.specs.FileReading.{read_text}
use Rattle.brep_file.specs.Sound.{file_limits}
use Rattle.script_text.specs.Lines.{script_line_count}
use Rattle.key_results.specs.declared.fault.LimitKind.{LimitKind}
use Rattle.key_results.specs.declared.fault.LimitKind.TheVariants.{FileBytes, ScriptBytes, ScriptLines}
use Rattle.brep_run.specs.declared.outcome.Outcome.{Outcome}
use Rattle.brep_run.specs.declared.outcome.Outcome.TheVariants as outcomes
use Rattle.brep_run.specs.CommandLine.{CommandLine, copies, rewrites, lists, later, wrong, command_line_of}
use Rattle.brep_run.specs.Copy.{most_bytes}
use Rattle.brep_run.specs.Listings.{listing_outcome}
use Rattle.brep_run.specs.Outcomes.{IsReadDeskOrNoMemory}
use Rattle.brep_run.specs.Rewrite.{most_script_bytes, most_script_lines}
use Rattle.session.specs.declared.fault.SessionFault.TheVariants as faults
use Rattle.session.specs.States.{State}
use Rattle.script_runs.specs.Runs.{IsRun, IsRunRefused}

pub data Answer : Type 0 where
  -- this outcome
  outcome : Outcome → Answer
  -- what comes of these lines of a script, carried out on a file
  by_run : File → List ℕ → Answer
  -- a fault of reading: a name that is to be read isn't held
  reading_fails : Answer
  -- the desk doesn't tell what its names hold
  untold : Answer

-- a count that is over its limit is answered, before what comes next
abbrev pub within : LimitKind → ℕ → ℕ → Answer → Answer
within which most count next = if nat_lt most count then outcome (outcomes.Limit which (most + 1)) else next

-- ---- reading IN: its length, then its first fault

abbrev pub if_read : (File → Answer) → Result File ReadFault → Answer
if_read next (Ok f) = next f
if_read next (Err fault) = outcome (outcomes.File fault)

abbrev pub if_file : (File → Answer) → Option (List ℕ) → Answer
if_file next None = reading_fails
if_file next (Some bytes) = within FileBytes most_bytes (length bytes) (if_read next (read_text file_limits bytes))

-- ---- reading SCRIPT: its length, then its number of lines, then what its lines say

abbrev pub if_script : Option (List ℕ) → File → Answer
if_script None f = reading_fails
if_script (Some lines) f =
    within ScriptBytes most_script_bytes (length lines)
    (within ScriptLines most_script_lines (script_line_count lines) (by_run f lines))

-- ---- each command

-- A copy is answered as a rewriting is whose script is accepted.
abbrev pub answer_for : Shown → CommandLine → Answer
answer_for old (copies source target) = if_file (λ f. outcome outcomes.Done) (old.held source)
answer_for old (rewrites source script target history) = if_file (if_script (old.held script)) (old.held source)
answer_for old (lists source listing target) = if_file (λ f. outcome (listing_outcome listing f)) (old.held source)
answer_for old later = outcome outcomes.NotBuilt
answer_for old wrong = outcome outcomes.Usage

-- The answer to these words.
abbrev pub answer_to : Tells → Shown → List (List ℕ) → Answer
answer_to t old words = if t.held then answer_for old (command_line_of words) else untold

-- What the lines of a script may be answered with: Done where they are carried out, or why they aren't; or want of
-- memory.
abbrev pub IsRunAnswer : File → List ℕ → Outcome → Type 0
IsRunAnswer f lines outcomes.Done = (end : State) × IsRun f lines end
IsRunAnswer f lines (outcomes.Script fault) = IsRunRefused f lines (faults.Script fault)
IsRunAnswer f lines (outcomes.Cycle walk) = IsRunRefused f lines (faults.Cycle walk)
IsRunAnswer f lines (outcomes.Limit which count) = IsRunRefused f lines (faults.Limit which count)
IsRunAnswer f lines outcomes.NoMemory = Unit {0}
IsRunAnswer f lines _ = ⊥

-- The answer comes or want of memory, where the count of faults didn't rise; where a name isn't held, in any case a
-- fault of reading or want of memory.
abbrev pub Answers : Outcome → Answer → ℕ → ℕ → Type 0
Answers result (outcome due) entry exit = (Rose entry exit → ⊥) → (result ≡ due) ⊎ (result ≡ outcomes.NoMemory)
Answers result (by_run f lines) entry exit = (Rose entry exit → ⊥) → IsRunAnswer f lines result
Answers result reading_fails entry exit = IsReadDeskOrNoMemory result
Answers result untold entry exit = Unit {0}
