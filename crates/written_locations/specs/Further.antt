-- The words that a written file has beside its datums, and the numbers that words have in it.
use Rattle.std.specs.Prelude.{ℕ, ℤ, pos, suc, ◌+◌, if◌then◌else◌, List, [], ◌∷◌, fold, length, Option, Some, None}
use Rattle.std.specs.Ordering.{int_eq}
use Rattle.location_words.specs.declared.pair.Pair.{Pair}
use Rattle.location_words.specs.Pairs.{pairs_eq}
use Rattle.location_words.specs.Tables.{entered}

-- the number of a word that takes no record of its own: 0 of the identity, and of one datum with power 1 the datum's
abbrev pub fixed_number : List Pair → Option ℕ
fixed_number [] = Some 0
fixed_number (p ∷ []) = if int_eq p.power (pos 1) then Some p.datum else None
fixed_number (p ∷ q ∷ w) = None

-- these words and one more, where it takes a record and isn't one of them
abbrev pub with_word_by : Option ℕ → List (List Pair) → List Pair → List (List Pair)
with_word_by (Some k) words w = words
with_word_by None words w = entered words w

abbrev pub with_word : List (List Pair) → List Pair → List (List Pair)
with_word words w = with_word_by (fixed_number w) words w

-- the words that take a record, each once, in the order in which they first occur
abbrev pub further_words : List (List Pair) → List (List Pair)
further_words ws = fold with_word [] ws

-- the place of a word in a list, counted from 1; past the last where it isn't there
abbrev pub place_in : List (List Pair) → List Pair → ℕ
place_in [] w = 1
place_in (v ∷ vs) w = if pairs_eq w v then 1 else suc (place_in vs w)

abbrev pub or_after : Option ℕ → ℕ → List (List Pair) → List Pair → ℕ
or_after (Some k) datums further w = k
or_after None datums further w = datums + place_in further w

-- the number of a word: its own, or its place after so many datums
abbrev pub number_of_word : ℕ → List (List Pair) → List Pair → ℕ
number_of_word datums further w = or_after (fixed_number w) datums further w
