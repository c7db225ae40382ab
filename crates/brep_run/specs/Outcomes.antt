-- A fact for one outcome.
use Rattle.std.specs.Prelude.{ℕ, List}
use Rattle.brep_run.specs.declared.outcome.Outcome.{Outcome}
use Rattle.key_results.specs.declared.fault.LimitKind.{LimitKind}
use Rattle.script_requests.specs.declared.fault.ScriptFault.{ScriptFault}
use Rattle.brep_tokens.specs.declared.fault.ReadFault.{ReadFault}
use Rattle.brep_run.specs.declared.outcome.Outcome.TheVariants.{Done, Usage, NotBuilt, File, Script, Cycle}
use Rattle.brep_run.specs.declared.outcome.Outcome.TheVariants.{Limit, ReadDesk, WriteDesk, NoMemory}

abbrev pub OnDone : Outcome → Type 0 → Type 0
OnDone Done P = P
OnDone _ P = Unit {0}

abbrev pub OnUsage : Outcome → Type 0 → Type 0
OnUsage Usage P = P
OnUsage _ P = Unit {0}

abbrev pub OnNotBuilt : Outcome → Type 0 → Type 0
OnNotBuilt NotBuilt P = P
OnNotBuilt _ P = Unit {0}

abbrev pub IfFile : Outcome → (ReadFault → Type 0) → Type 0
IfFile (File fault) P = P fault
IfFile _ P = Unit {0}

abbrev pub IfScript : Outcome → (ScriptFault → Type 0) → Type 0
IfScript (Script fault) P = P fault
IfScript _ P = Unit {0}

-- of the origins on a cycle
abbrev pub IfCycle : Outcome → (List ℕ → Type 0) → Type 0
IfCycle (Cycle walk) P = P walk
IfCycle _ P = Unit {0}

abbrev pub IfLimit : Outcome → (LimitKind → ℕ → Type 0) → Type 0
IfLimit (Limit which count) P = P which count
IfLimit _ P = Unit {0}

abbrev pub OnReadDesk : Outcome → Type 0 → Type 0
OnReadDesk (ReadDesk before after) P = P
OnReadDesk _ P = Unit {0}

-- of an output whose writing was stopped, and how many bytes of it were taken
abbrev pub IfStopped : Outcome → (ℕ → ℕ → Type 0) → Type 0
IfStopped (WriteDesk before after file taken) P = P file taken
IfStopped _ P = Unit {0}

-- of the counts of a fault of the desk, in reading or in writing
abbrev pub IfDeskFault : Outcome → (ℕ → ℕ → Type 0) → Type 0
IfDeskFault (ReadDesk before after) P = P before after
IfDeskFault (WriteDesk before after file taken) P = P before after
IfDeskFault _ P = Unit {0}

-- of Done and WriteDesk, before which a writing was begun or tried
abbrev pub OnWriting : Outcome → Type 0 → Type 0
OnWriting Done P = P
OnWriting (WriteDesk before after file taken) P = P
OnWriting _ P = Unit {0}

-- of each outcome but Done and WriteDesk
abbrev pub UnlessWriting : Outcome → Type 0 → Type 0
UnlessWriting Done P = Unit {0}
UnlessWriting (WriteDesk before after file taken) P = Unit {0}
UnlessWriting _ P = P

abbrev pub IsReadDeskOrNoMemory : Outcome → Type 0
IsReadDeskOrNoMemory (ReadDesk before after) = Unit {0}
IsReadDeskOrNoMemory NoMemory = Unit {0}
IsReadDeskOrNoMemory _ = ⊥
