-- Why a command is refused.
use Rattle.std.specs.Prelude.{◌≡◌, ◌⊎◌, ◌<◌, ◌≤◌, ℕ, suc, List, [], ◌∷◌, length, map}
use Rattle.expansion_laws.specs.Trees.{Tree, origin}
use Rattle.expansion_laws.specs.Graph.{HasCycle, IsRank, IsFirstCycle}
use Rattle.expansion_laws.specs.Requests.{Request}
use Rattle.requests.specs.Plans.{most_rank}
use Rattle.key_results.specs.declared.fault.LimitKind.{LimitKind}
use Rattle.key_results.specs.declared.fault.LimitKind.TheVariants.{Steps, Rank}
use Rattle.reshape.specs.Limits.{groups, IsFirstFault}
use Rattle.script_text.specs.declared.command.Command.{Command}
use Rattle.script_text.specs.declared.command.Command.TheVariants as commands
use Rattle.step_history.specs.Composition.{Done}
use Rattle.brep_file.specs.declared.file.File.{File}
use Rattle.script_requests.specs.declared.fault.ScriptCode.TheVariants.{NothingToUndo}
use Rattle.script_requests.specs.Refusals.{told, IsAmiss}
use Rattle.session.specs.declared.fault.SessionFault.{SessionFault}
use Rattle.session.specs.declared.fault.SessionFault.TheVariants.{Script, Cycle, Limit, NoMemory}
use Rattle.session.specs.States.{State, root_of, step_of, held_trees}

-- ---- the end of a step

-- the greatest number of steps that are carried out
abbrev pub most_steps : ℕ
most_steps = 64

module _ (f : File) (s : State) where
  -- one step more may be carried out, and its graph has no cycle, or no rank past its limit
  abbrev pub HasRoom : Type 0
  HasRoom = length s.made < most_steps

  abbrev pub HasNoCycle : Type 0
  HasNoCycle = HasRoom × (HasCycle (step_of f s) (root_of f s).tree → ⊥)

  abbrev pub IsWithinRank : Type 0
  IsWithinRank = HasNoCycle × ((n : ℕ) × IsRank (step_of f s) (root_of f s).tree n × (n ≤ most_rank))

  -- a limit of the step is passed, by so many: that of the first group of tests in which one fails
  abbrev pub IsPast : LimitKind → ℕ → Type 0
  IsPast Steps n = (most_steps ≤ length s.made) × (n ≡ suc most_steps)
  IsPast Rank n = HasNoCycle × IsRank (step_of f s) (root_of f s).tree n × (most_rank < n)
  IsPast which n = IsWithinRank × IsFirstFault (groups (step_of f s) (root_of f s) (held_trees f s)) which n

  -- the first cycle of its graph, by origins
  abbrev pub IsCycle : List ℕ → Type 0
  IsCycle walk = HasRoom × ((trees : List Tree) × IsFirstCycle (step_of f s) (root_of f s).tree trees ×
      (walk ≡ map origin trees))

  -- a step without requests isn't refused
  abbrev pub IsStepRefused : List Request → SessionFault → Type 0
  IsStepRefused [] fault = ⊥
  IsStepRefused (r ∷ rs) (Script fault) = ⊥
  IsStepRefused (r ∷ rs) (Cycle walk) = IsCycle walk
  IsStepRefused (r ∷ rs) (Limit which n) = IsPast which n
  IsStepRefused (r ∷ rs) NoMemory = ⊥

  -- nothing was asked or done
  abbrev pub IsUndoRefused : ℕ → List Request → List Done → SessionFault → Type 0
  IsUndoRefused line [] [] fault = fault ≡ Script (told line NothingToUndo 0 0)
  IsUndoRefused line asked ds fault = ⊥

-- ---- each command
abbrev pub IsAskRefused : File → State → ℕ → Command → SessionFault → Type 0
IsAskRefused f s line c (Script fault) = IsAmiss f s.steps line c fault
IsAskRefused f s line c fault = ⊥

-- a command in the line with a number is refused for this, in a state
abbrev pub IsRefused : File → State → ℕ → Command → SessionFault → Type 0
IsRefused f s line commands.Apply fault = IsStepRefused f s s.requests fault
IsRefused f s line commands.Undo fault = IsUndoRefused f s line s.requests s.steps fault
IsRefused f s line (commands.Until kind) fault = ⊥
IsRefused f s line commands.Prune fault = ⊥
IsRefused f s line commands.OutputFirst fault = ⊥
IsRefused f s line c fault = IsAskRefused f s line c fault

-- for this, or want of memory
abbrev pub IsDueRefusal : File → State → ℕ → Command → SessionFault → Type 0
IsDueRefusal f s line c fault = (fault ≡ NoMemory) ⊎ IsRefused f s line c fault
