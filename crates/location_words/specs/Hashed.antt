-- What is hashed of a word.
use Rattle.std.specs.Prelude.{List, ◌++◌}
use Rattle.std.specs.Hash as fed
use Rattle.location_words.specs.declared.pair.Pair.{Pair}

-- its pairs, each by its datum and its power
abbrev pub word_input : List Pair → fed.HashWrites
word_input w = fed.slice (λ p. fed.u32 p.datum ++ fed.i64 p.power) w
