-- Products of several words.
use Rattle.std.specs.Prelude.{List, [], ◌∷◌}
use Rattle.location_words.specs.declared.pair.Pair.{Pair}
use Rattle.location_words.specs.Pairs.{mul}

-- the product of words, outermost factor first
abbrev pub product : List (List Pair) → List Pair
product [] = []
product (w ∷ ws) = mul w (product ws)
