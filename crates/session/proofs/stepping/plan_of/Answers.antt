-- The fault of the check is that of the step.
use Rattle.std.proofs.Common.{◌<◌, arith, subst}
use Rattle.lists.proofs.Errors.{IfErr-on}
use Rattle.requests.specs.Numbered.{a_table}
use Rattle.requests.specs.Plans.{IsDueFault}
use Rattle.session.specs.Faults.{of_check}
use Rattle.session.specs.Refusals.{most_steps}
use Rattle.session.specs.Stepped.{IsPlanFault}
use Rattle.session.proofs.StepFaults.{plan-fault}
use Rattle.session.proofs.stepping.plan_of.Goals as goal

pub returns-in_err-plan-clause-refused : goal.returns-in_err-plan-clause-refused
returns-in_err-plan-clause-refused c =
    let rows = c.args.pool.now in
    let t = a_table c.args.asked.now c.args.rule in
    let room : c.args.carried < most_steps = omega (arith, c.if-carried-ge-MOST_STEPS.false) in
    IfErr-on c.from_residual-in_err-plan.result (of_check c.in_err-plan.field-0.0)
    (IsPlanFault rows t c.args.root.id.0 c.args.carried) c.from_residual-in_err-plan.ensures.1
    (plan-fault rows t c.args.root.id.0 c.args.carried c.in_err-plan.field-0.0 room
    (subst (λ x. IsDueFault rows x c.args.root.id.0 c.in_err-plan.field-0.0) c.in_ok-table.ensures
    c.in_err-plan.ensures.fault))
