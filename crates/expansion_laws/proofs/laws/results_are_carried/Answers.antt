-- Both ways, at each level.
use Rattle.expansion_laws.proofs.CarriedLemmas.{carried-of-use, use-of-carried}
use Rattle.expansion_laws.proofs.laws.results_are_carried.Goals as goal

pub returns : goal.returns
returns c = let turns = c.turns_compose.ensures in let group = c.words_are_a_group.ensures in
    λ s c u results h k. (carried-of-use turns group s c u results h k, use-of-carried turns group s c u results h k)
