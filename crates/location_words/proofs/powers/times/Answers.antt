-- The first product that is no word decides.
use Rattle.std.proofs.Common.{subst}
use Rattle.std.proofs.lemmas.Result.{err_from_is_err_and}
use Rattle.location_words.specs.Pairs.{mul}
use Rattle.location_words.specs.Faults.{fault_of, IsDueFault}
use Rattle.location_words.proofs.PowerLemmas.{times-due}
use Rattle.location_words.proofs.powers.times.Goals as goal

pub returns-in_err-product-clause-refused : goal.returns-in_err-product-clause-refused
returns-in_err-product-clause-refused c =
    let p = err_from_is_err_and c.from_residual.result c.from_residual.ensures.1 in
    rw (p.1, p.2)
    (times-due c.args.factor.now c.loop.counter c.args.n c.in_err-product.field-0.0 c.loop.invariant.words
    (subst (λ l. IsDueFault (fault_of (mul l c.args.factor.now)) c.in_err-product.field-0.0) c.loop.invariant.made
    c.in_err-product.ensures.refused) c.loop-test.true)
