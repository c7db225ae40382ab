-- Commands that are carried out lead from state to state.
use Rattle.std.proofs.Common.{ℕ, List}
use Rattle.brep_file.specs.declared.file.File.{File}
use Rattle.session.specs.declared.fault.SessionFault.{SessionFault}
use Rattle.session.specs.Standing.{InStates, Stands}
use Rattle.session.specs.States.{State}
use Rattle.session.specs.Views.{View}
use Rattle.script_runs.specs.declared.commands.LineCommand.{LineCommand}
use Rattle.script_runs.specs.Runs.{RisesInRun, RunsTo, StopsFor}

-- The commands so far have led from one state to another, before the rest of them; and a count from one number to
-- another.
pub record LeadsTo (f : File) (first : State) (cs : List LineCommand) (old : ℕ) (s : State) (rest : List LineCommand)
    (between : ℕ) : Type 0 where
  pub runs : (end : State) → RunsTo f s rest end → RunsTo f first cs end
  pub stops : (fault : SessionFault) → StopsFor f s rest fault → StopsFor f first cs fault
  pub rises : (new : ℕ) → RisesInRun f s rest between new → RisesInRun f first cs old new

-- they have led a session to where it stands
abbrev pub HasComeTo : View → List LineCommand → ℕ → View → List LineCommand → ℕ → Type 0
HasComeTo old cs count now rest between = InStates old (λ s.
    (next : State) × Stands now next × LeadsTo old.file s cs count next rest between)
