-- The fault of the rewriting is that of the step.
use Rattle.std.proofs.Common.{length}
use Rattle.lists.proofs.Errors.{IfErr-on}
use Rattle.session.specs.Faults.{of_apply}
use Rattle.session.specs.Stepped.{IsStepFault}
use Rattle.session.proofs.StepFaults.{step-fault}
use Rattle.session.proofs.stepping.version_of.Goals as goal

pub returns-in_err-made-clause-refused : goal.returns-in_err-made-clause-refused
returns-in_err-made-clause-refused g c =
    let old = c.args.pool.now in
    let new = c.apply.new.pool in
    let n = length c.args.words.now in
    let words = c.apply.new.words in
    IfErr-on c.from_residual.result (of_apply c.in_err-made.field-0.0)
    (IsStepFault old new n words c.args.plan.now c.args.first c.args.before c.args.history.now)
    c.from_residual.ensures.1
    (step-fault old new n words c.args.plan.now c.args.first c.args.before c.args.history.now c.in_err-made.field-0.0
    c.in_err-made.ensures.refused)
