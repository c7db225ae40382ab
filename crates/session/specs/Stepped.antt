-- The end of a step, by numbers: its plan, and the version that it makes.
use Rattle.std.specs.Prelude.{◌≡◌, ◌<◌, ◌≤◌, ℕ, suc, List, [], ◌∷◌, ◌++◌, length, reverse}
use Rattle.location_words.specs.declared.pair.Pair.{Pair}
use Rattle.key_results.specs.declared.fault.ApplyFault.TheVariants as apply_faults
use Rattle.key_results.specs.declared.fault.LimitKind.TheVariants.{Steps, Rank}
use Rattle.key_results.specs.declared.rewritten.Rewritten.{Rewritten}
use Rattle.requests.specs.declared.fault.CheckFault.TheVariants as check_faults
use Rattle.requests.specs.Numbered.{Table}
use Rattle.requests.specs.Plans.{IsDueFault, StepPlan}
use Rattle.reshape.specs.Answers.{IsDueLimit, IsHeldAnswer, IsRewritten, PairsAscend}
use Rattle.reshape.specs.Readings.{InSteps}
use Rattle.shape_pool.specs.declared.node.UseOf.{UseOf}
use Rattle.shape_pool.specs.Rows.{Row}
use Rattle.step_history.specs.declared.history.StepHistory.{StepHistory}
use Rattle.step_history.specs.Numbered.{IsHeld, TellsStep}
use Rattle.history_merge.specs.Chain.{TellsChain}
use Rattle.session.specs.declared.fault.SessionFault.{SessionFault}
use Rattle.session.specs.declared.fault.SessionFault.TheVariants.{Script, Cycle, Limit, NoMemory}
use Rattle.script_requests.specs.declared.version.Version.{Version}
use Rattle.script_requests.specs.Named.{last_root, last_history}
use Rattle.session.specs.Refusals.{most_steps}

-- why a step has no plan, after so many steps
abbrev pub IsPlanFault : List Row → Table → ℕ → ℕ → SessionFault → Type 0
IsPlanFault rows t root carried (Cycle walk) = (carried < most_steps) × IsDueFault rows t root (check_faults.Cycle walk)
IsPlanFault rows t root carried (Limit Steps n) = (most_steps ≤ carried) × (n ≡ suc most_steps)
IsPlanFault rows t root carried (Limit Rank n) = (carried < most_steps) × IsDueFault rows t root (check_faults.Rank n)
IsPlanFault rows t root carried (Limit which n) = ⊥
IsPlanFault rows t root carried NoMemory = Unit {0}
IsPlanFault rows t root carried (Script fault) = ⊥

module _ (old new : List Row) (n : ℕ) (words : List (List Pair)) (plan : StepPlan) (first before : UseOf)
    (history : StepHistory) where
  -- what a step of a plan makes of a version: its root, its images, and the history with that of the step
  pub record IsVersionMade (v : Version) : Type 0 where
    pub made : Rewritten
    pub root : v.root ≡ made.root
    pub images : v.images ≡ made.images
    pub rewritten : InSteps old n before.id.0 plan words (IsRewritten old new before made)
    pub held : IsHeldAnswer new (length words) made
    pub order : PairsAscend made
    pub step : StepHistory
    pub step_held : IsHeld new step
    pub told : TellsStep new before.id.0 made.root.id.0 made.images made.replaced step
    pub chained : TellsChain new first.id.0 made.root.id.0 history step v.history
    pub history_held : IsHeld new v.history

  -- why it isn't made
  abbrev pub IsStepFault : SessionFault → Type 0
  IsStepFault (Limit which count) =
      InSteps old n before.id.0 plan words (IsDueLimit old before (apply_faults.Limit which count))
  IsStepFault NoMemory = Unit {0}
  IsStepFault (Cycle walk) = ⊥
  IsStepFault (Script fault) = ⊥

-- the version that a step of a plan makes of the last one comes last
abbrev pub IsVersionAdded : List Row → List Row → ℕ → List (List Pair) → StepPlan → UseOf → StepHistory → List Version →
    List Version → Type 0
IsVersionAdded old new n words plan first start before after =
    (v : Version) × (after ≡ before ++ v ∷ []) ×
    IsVersionMade old new n words plan first (last_root first (reverse before)) (last_history start (reverse before)) v
