-- Visit by visit.
use Rattle.std.proofs.Common.{arith, length}
use Rattle.key_results.proofs.PartLaws.{before-give}
use Rattle.key_results.proofs.laws.outgrowths_give_results.Goals as goal

pub returns : goal.returns
returns c = λ word tree prune visits outgrowths linked are k lt.
    let long = are.long in
    before-give word tree prune visits linked (length visits) outgrowths (omega arith) long are.each k
    (omega (arith, lt, long))
