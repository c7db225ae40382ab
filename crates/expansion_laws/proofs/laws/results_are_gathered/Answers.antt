-- By one level more than the demands take.
use Rattle.expansion_laws.proofs.VisitLemmas.{visit-rewritten-by}
use Rattle.expansion_laws.proofs.laws.results_are_gathered.Goals as goal

pub returns : goal.returns
returns c =
    λ s x here asked. visit-rewritten-by c.turns_compose.ensures c.words_are_a_group.ensures s x here (λ p. p.0)
    (λ p. p.1) asked
