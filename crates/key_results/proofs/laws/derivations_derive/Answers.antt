-- By the laws of rewriting.
use Rattle.key_results.proofs.DerivedLaws.{derives-results}
use Rattle.key_results.proofs.laws.derivations_derive.Goals as goal

pub returns : goal.returns
returns c = λ s word rows keys visits zero words linked derives.
    derives-results s word rows keys visits (c.results_are_gathered.ensures s) (c.keys_stand_for_visits.ensures s)
    c.words_are_a_group.ensures zero words linked derives
