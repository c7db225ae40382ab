-- Why bytes are not read is why no file and no script is.
use Rattle.std.proofs.Common.{sym, subst}
use Rattle.std.specs.Prelude.{ℕ, List}
use Rattle.brep_desk.specs.Shown.{Shown, Tells}
use Rattle.brep_run.specs.declared.outcome.Outcome.{Outcome}
use Rattle.brep_run.specs.declared.outcome.Outcome.TheVariants as outcomes
use Rattle.key_results.specs.declared.fault.LimitKind.TheVariants.{FileBytes, ScriptBytes}
use Rattle.brep_run.specs.Copy.{most_bytes}
use Rattle.brep_run.specs.Inputs.{IsBytesStop, IsInputStop, IsScriptLimit, IsScriptStop}
use Rattle.brep_run.specs.Rewrite.{most_script_bytes}

module _ (t : Tells) (old : Shown) (name : List ℕ) (entry exit : ℕ) where
  pub input-stop : (o : Outcome) → IsBytesStop t old name FileBytes most_bytes entry exit o →
      IsInputStop t old name entry exit o
  input-stop (outcomes.ReadDesk before after) s = s
  input-stop (outcomes.Limit which count) s = s
  input-stop outcomes.NoMemory s = tt
  input-stop outcomes.Done s = absurd s
  input-stop outcomes.Usage s = absurd s
  input-stop outcomes.NotBuilt s = absurd s
  input-stop (outcomes.File fault) s = absurd s
  input-stop (outcomes.Script fault) s = absurd s
  input-stop (outcomes.Cycle walk) s = absurd s
  input-stop (outcomes.WriteDesk before after file taken) s = absurd s

  pub script-stop : (o : Outcome) → IsBytesStop t old name ScriptBytes most_script_bytes entry exit o →
      IsScriptStop t old name entry exit o
  script-stop (outcomes.ReadDesk before after) s = s
  script-stop (outcomes.Limit which count) s = subst (λ w. IsScriptLimit t old name w count) (sym s.0) (s.1, s.2)
  script-stop outcomes.NoMemory s = tt
  script-stop outcomes.Done s = absurd s
  script-stop outcomes.Usage s = absurd s
  script-stop outcomes.NotBuilt s = absurd s
  script-stop (outcomes.File fault) s = absurd s
  script-stop (outcomes.Script fault) s = absurd s
  script-stop (outcomes.Cycle walk) s = absurd s
  script-stop (outcomes.WriteDesk before after file taken) s = absurd s
