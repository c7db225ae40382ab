-- What reading the inputs of a run gives, and why it stops, by the outcome that it is told as.
use Rattle.std.specs.Prelude.{◌≡◌, ℕ, ◌+◌, IsTrue, List}
use Rattle.brep_desk.specs.Shown.{Shown, Tells}
use Rattle.brep_desk.specs.Transfers.{IsLonger}
use Rattle.brep_file.specs.declared.file.File.{File}
use Rattle.session.specs.declared.fault.SessionFault.TheVariants as faults
use Rattle.script_runs.specs.Runs.{IsRunRefused}
use Rattle.brep_run.specs.declared.outcome.Outcome.{Outcome}
use Rattle.brep_run.specs.declared.outcome.Outcome.TheVariants as outcomes
use Rattle.key_results.specs.declared.fault.LimitKind.{LimitKind}
use Rattle.key_results.specs.declared.fault.LimitKind.TheVariants.{ScriptBytes, ScriptLines}
use Rattle.brep_run.specs.Copy.{Counts, HoldsFault, IsFileLimit}
use Rattle.brep_run.specs.Rewrite.{HasMoreLines, most_script_bytes, most_script_lines}

-- why the bytes of a name are not read, given the limit on how many there may be
abbrev pub IsBytesStop : Tells → Shown → List ℕ → LimitKind → ℕ → ℕ → ℕ → Outcome → Type 0
IsBytesStop t old name kind most entry exit (outcomes.ReadDesk before after) = Counts entry exit before after
IsBytesStop t old name kind most entry exit (outcomes.Limit which count) =
    (which ≡ kind) × (count ≡ most + 1) × IsLonger t old name most
IsBytesStop t old name kind most entry exit outcomes.NoMemory = Unit {0}
IsBytesStop t old name kind most entry exit _ = ⊥

-- why no file is read from the source
abbrev pub IsInputStop : Tells → Shown → List ℕ → ℕ → ℕ → Outcome → Type 0
IsInputStop t old source entry exit (outcomes.ReadDesk before after) = Counts entry exit before after
IsInputStop t old source entry exit (outcomes.Limit which count) = IsFileLimit t old source which count
IsInputStop t old source entry exit (outcomes.File fault) = IsTrue t.held → HoldsFault old source fault
IsInputStop t old source entry exit outcomes.NoMemory = Unit {0}
IsInputStop t old source entry exit _ = ⊥

-- the script has too many bytes or lines
abbrev pub IsScriptLimit : Tells → Shown → List ℕ → LimitKind → ℕ → Type 0
IsScriptLimit t old script ScriptBytes count = (count ≡ most_script_bytes + 1) × IsLonger t old script most_script_bytes
IsScriptLimit t old script ScriptLines count =
    (count ≡ most_script_lines + 1) × (IsTrue t.held → HasMoreLines old script)
IsScriptLimit t old script _ count = ⊥

-- why no script is read from the name
abbrev pub IsScriptStop : Tells → Shown → List ℕ → ℕ → ℕ → Outcome → Type 0
IsScriptStop t old script entry exit (outcomes.ReadDesk before after) = Counts entry exit before after
IsScriptStop t old script entry exit (outcomes.Limit which count) = IsScriptLimit t old script which count
IsScriptStop t old script entry exit outcomes.NoMemory = Unit {0}
IsScriptStop t old script entry exit _ = ⊥

-- why the lines of a script aren't carried out on a file
abbrev pub IsRunStop : File → List ℕ → Outcome → Type 0
IsRunStop f lines (outcomes.Script fault) = IsRunRefused f lines (faults.Script fault)
IsRunStop f lines (outcomes.Cycle walk) = IsRunRefused f lines (faults.Cycle walk)
IsRunStop f lines (outcomes.Limit which count) = IsRunRefused f lines (faults.Limit which count)
IsRunStop f lines outcomes.NoMemory = Unit {0}
IsRunStop f lines _ = ⊥
