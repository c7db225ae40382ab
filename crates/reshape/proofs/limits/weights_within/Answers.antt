-- The uses are told as far as they matter.
use Rattle.std.proofs.Common.{◌∙◌, ap, refl, inl, inr}
use Rattle.lists.proofs.Errors.{IfErr-on}
use Rattle.key_results.specs.declared.fault.ApplyFault.TheVariants.{Limit, NoMemory}
use Rattle.key_results.specs.declared.fault.LimitKind.TheVariants.{Uses}
use Rattle.reshape.proofs.LimitLaws.{small-of-min, past-of-min}
use Rattle.reshape.proofs.limits.weights_within.Goals as goal

pub returns-in_err-weights-clause-refused : goal.returns-in_err-weights-clause-refused
returns-in_err-weights-clause-refused c =
    IfErr-on c.from_residual.result NoMemory _ c.from_residual.ensures.1 (λ word. inl refl)

pub returns-then-uses-gt-MOST_USES-clause-refused : goal.returns-then-uses-gt-MOST_USES-clause-refused
returns-then-uses-gt-MOST_USES-clause-refused c = λ word.
    inr (
      c.limit.ensures ∙ ap (λ n. Limit Uses n) (c.in_ok-weights.ensures.uses word),
      past-of-min _ c.in_ok-weights.weights.uses (c.in_ok-weights.ensures.uses word) c.if-uses-gt-MOST_USES.true,
    )

pub returns-clause-within : goal.returns-clause-within
returns-clause-within c = λ word.
    small-of-min _ c.in_ok-weights.weights.uses (c.in_ok-weights.ensures.uses word) c.if-uses-gt-MOST_USES.false
