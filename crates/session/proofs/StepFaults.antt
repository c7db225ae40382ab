-- The faults of a step by those of the calls below it.
use Rattle.std.proofs.Common.{◌<◌, ℕ}
use Rattle.std.specs.Prelude.{List}
use Rattle.location_words.specs.declared.pair.Pair.{Pair}
use Rattle.key_results.specs.declared.fault.ApplyFault.{ApplyFault}
use Rattle.key_results.specs.declared.fault.ApplyFault.TheVariants as apply
use Rattle.requests.specs.declared.fault.CheckFault.{CheckFault}
use Rattle.requests.specs.declared.fault.CheckFault.TheVariants as check
use Rattle.requests.specs.Numbered.{Table}
use Rattle.requests.specs.Plans.{IsDueFault, StepPlan}
use Rattle.reshape.specs.Answers.{IsDueLimit}
use Rattle.reshape.specs.Readings.{InSteps}
use Rattle.shape_pool.specs.declared.node.UseOf.{UseOf}
use Rattle.shape_pool.specs.Rows.{Row}
use Rattle.step_history.specs.declared.history.StepHistory.{StepHistory}
use Rattle.session.specs.Faults.{of_apply, of_check}
use Rattle.session.specs.Refusals.{most_steps}
use Rattle.session.specs.Stepped.{IsPlanFault, IsStepFault}

pub plan-fault : (rows : List Row) (t : Table) (root carried : ℕ) (fault : CheckFault) → carried < most_steps →
    IsDueFault rows t root fault → IsPlanFault rows t root carried (of_check fault)
plan-fault rows t root carried (check.Cycle walk) room due = (room, due)
plan-fault rows t root carried (check.Rank n) room due = (room, due)
plan-fault rows t root carried check.NoMemory room due = tt

pub step-fault : (old new : List Row) (n : ℕ) (words : List (List Pair)) (plan : StepPlan) (first before : UseOf)
    (history : StepHistory) (fault : ApplyFault) →
    InSteps old n before.id.0 plan words (IsDueLimit old before fault) →
    IsStepFault old new n words plan first before history (of_apply fault)
step-fault old new n words plan first before history (apply.Limit which count) due = due
step-fault old new n words plan first before history apply.NoMemory due = tt
