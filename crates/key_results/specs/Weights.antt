-- What results weigh.
use Rattle.std.specs.Prelude.{min, List, length}
use Rattle.expansion_laws.specs.Trees.{Use}
use Rattle.key_results.specs.declared.weighing.Weight.{Weight}
use Rattle.key_results.specs.Derivations.{most_told, deepest}

-- their number, as far as it is told, and the depth of the deepest of their trees
abbrev pub weight : List Use → Weight
weight results = record { results = min (length results) most_told; depth = deepest results }
