-- The depth is that of the new root.
use Rattle.std.proofs.Common.{arith, ◌∙◌, ap}
use Rattle.key_results.specs.declared.fault.ApplyFault.TheVariants.{Limit}
use Rattle.key_results.specs.declared.fault.LimitKind.TheVariants.{Depth}
use Rattle.reshape.proofs.limits.within_depth.Goals as goal

pub returns-then-depth-gt-MOST_DEPTH-clause-refused : goal.returns-then-depth-gt-MOST_DEPTH-clause-refused
returns-then-depth-gt-MOST_DEPTH-clause-refused c = λ w at.
    let same = c.depth_over-depth.ensures w at in
    let past = c.if-depth-gt-MOST_DEPTH.true in
    (c.limit.ensures ∙ ap (λ n. Limit Depth n) same, omega (arith, same, past))

pub returns-clause-within : goal.returns-clause-within
returns-clause-within c = λ w at.
    let same = c.depth_over-depth.ensures w at in
    let few = c.if-depth-gt-MOST_DEPTH.false in
    omega (arith, same, few)
