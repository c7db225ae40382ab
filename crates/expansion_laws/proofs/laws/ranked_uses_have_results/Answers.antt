-- By one level more than the rank.
use Rattle.std.specs.Prelude.{suc}
use Rattle.expansion_laws.proofs.VisitLemmas.{there}
use Rattle.expansion_laws.proofs.laws.ranked_uses_have_results.Goals as goal

pub returns : goal.returns
returns c = λ s n c u rank. (let t = there s n c u rank.1 in (t.0, (suc n, t.1)))
