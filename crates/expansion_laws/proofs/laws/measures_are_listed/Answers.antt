-- By the keys of the listed visits.
use Rattle.expansion_laws.proofs.MeasureLemmas.{measures-by-lists, held-by-lists, measures-determined}
use Rattle.expansion_laws.proofs.laws.measures_are_listed.Goals as goal

pub returns-clause-lists : goal.returns-clause-lists
returns-clause-lists c = measures-by-lists c.turns_compose.ensures c.words_are_a_group.ensures

pub returns-clause-held : goal.returns-clause-held
returns-clause-held c = held-by-lists

pub returns-clause-determined : goal.returns-clause-determined
returns-clause-determined c = measures-determined
