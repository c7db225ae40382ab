-- Both ways, by the levels and by the derivation.
use Rattle.expansion_laws.proofs.LeastLemmas.{derived, within-of}
use Rattle.expansion_laws.proofs.laws.rewriting_is_least.Goals as goal

pub returns : goal.returns
returns c = λ s c u results. (λ h. derived s h.0 c u results h.1, λ d. within-of d)
