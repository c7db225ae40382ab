-- A fact of what a call answers.
use Rattle.std.proofs.Common.{ℕ}
use Rattle.brep_run.specs.declared.outcome.Outcome.{Outcome}
use Rattle.brep_run.specs.declared.outcome.Outcome.TheVariants.{Done, Usage, NotBuilt, Script, Cycle, Limit}
use Rattle.brep_run.specs.declared.outcome.Outcome.TheVariants.{ReadDesk, WriteDesk, NoMemory}
use Rattle.brep_run.specs.declared.outcome.Outcome.TheVariants as outcomes
use Rattle.brep_run.specs.Outcomes.{OnDone, IfStopped}

-- where a run is done, what follows from what stands
pub OnDone-weaker : (P Q : Type 0) → (P → Q) → (o : Outcome) → OnDone o P → OnDone o Q
OnDone-weaker P Q h Done p = h p
OnDone-weaker P Q h Usage p = p
OnDone-weaker P Q h NotBuilt p = p
OnDone-weaker P Q h (outcomes.File fault) p = p
OnDone-weaker P Q h (Script fault) p = p
OnDone-weaker P Q h (Cycle walk) p = p
OnDone-weaker P Q h (Limit which count) p = p
OnDone-weaker P Q h (ReadDesk before after) p = p
OnDone-weaker P Q h (WriteDesk before after file taken) p = p
OnDone-weaker P Q h NoMemory p = p

-- and where it was stopped, what follows from how
pub IfStopped-weaker : (P Q : ℕ → ℕ → Type 0) → ((file taken : ℕ) → P file taken → Q file taken) → (o : Outcome)
    → IfStopped o P → IfStopped o Q
IfStopped-weaker P Q h Done p = p
IfStopped-weaker P Q h Usage p = p
IfStopped-weaker P Q h NotBuilt p = p
IfStopped-weaker P Q h (outcomes.File fault) p = p
IfStopped-weaker P Q h (Script fault) p = p
IfStopped-weaker P Q h (Cycle walk) p = p
IfStopped-weaker P Q h (Limit which count) p = p
IfStopped-weaker P Q h (ReadDesk before after) p = p
IfStopped-weaker P Q h (WriteDesk before after file taken) p = h file taken p
IfStopped-weaker P Q h NoMemory p = p
