-- Two answers to one script agree.
use Rattle.std.proofs.Common.{refl, ap, inl, inr}
use Rattle.std.specs.Prelude.{ℕ, List}
use Rattle.brep_file.specs.declared.file.File.{File}
use Rattle.session.specs.declared.fault.SessionFault.{SessionFault}
use Rattle.session.specs.declared.fault.SessionFault.TheVariants as faults
use Rattle.script_runs.specs.Runs.{IsRunRefused}
use Rattle.run_laws.specs.Agreeing.{FaultsAgree, ScriptsAgree}
use Rattle.brep_run.specs.Answering.{IsRunAnswer}
use Rattle.brep_run.specs.declared.outcome.Outcome.{Outcome}
use Rattle.brep_run.specs.declared.outcome.Outcome.TheVariants.{Done, Script, Cycle}
use Rattle.brep_run.specs.declared.outcome.Outcome.TheVariants.{Limit, NoMemory}
use Rattle.outcome_laws.specs.OneOutcome.{AnswersAgree, OutcomesAgree}

-- the outcome that tells a fault
abbrev outcome_of : SessionFault → Outcome
outcome_of (faults.Script fault) = Script fault
outcome_of (faults.Cycle walk) = Cycle walk
outcome_of (faults.Limit which count) = Limit which count
outcome_of faults.NoMemory = NoMemory

-- ---- which answer it is
data IsAnswer (f : File) (lines : List ℕ) : Outcome → Type 0 where
  done : IsRunAnswer f lines Done → IsAnswer f lines Done
  refused : (fault : SessionFault) → IsRunRefused f lines fault → IsAnswer f lines (outcome_of fault)
  wanted : IsAnswer f lines NoMemory

answer : (f : File) (lines : List ℕ) (a : Outcome) → IsRunAnswer f lines a → IsAnswer f lines a
answer f lines Done h = done h
answer f lines (Script fault) h = refused (faults.Script fault) h
answer f lines (Cycle walk) h = refused (faults.Cycle walk) h
answer f lines (Limit which count) h = refused (faults.Limit which count) h
answer f lines NoMemory h = wanted
answer f lines _ h = absurd h

of-faults : (a b : SessionFault) → FaultsAgree a b → OutcomesAgree (outcome_of a) (outcome_of b)
of-faults a b (inl e) = inl (ap outcome_of e)
of-faults (faults.Limit w m) (faults.Limit v n) (inr h) = inr (inr (inr h))
of-faults (faults.Limit w m) (faults.Script b) (inr h) = absurd h.1
of-faults (faults.Limit w m) (faults.Cycle b) (inr h) = absurd h.1
of-faults (faults.Limit w m) faults.NoMemory (inr h) = absurd h.1
of-faults (faults.Script a) b (inr h) = absurd h.0
of-faults (faults.Cycle a) b (inr h) = absurd h.0
of-faults faults.NoMemory b (inr h) = absurd h.0

module _ (f : File) (lines : List ℕ) (agree : ScriptsAgree f lines) where
  both : (a b : Outcome) → IsAnswer f lines a → IsAnswer f lines b → OutcomesAgree a b
  both a b (done h) (done k) = inl refl
  both a b (done h) (refused fault k) = absurd (agree.apart h.0 fault h.1 k)
  both a b (refused fault h) (done k) = absurd (agree.apart k.0 fault k.1 h)
  both a b (refused one h) (refused other k) = of-faults one other (agree.faults one other h k)
  both a b wanted k = inr (inl refl)
  both a b (done h) wanted = inr (inr (inl refl))
  both a b (refused fault h) wanted = inr (inr (inl refl))

  pub answers-agree : AnswersAgree f lines
  answers-agree a b h k = both a b (answer f lines a h) (answer f lines b k)
