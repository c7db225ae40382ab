-- The words of the places of a section of locations.
use Rattle.std.specs.Prelude.{ℕ, ◌+◌, pos, List, [], ◌∷◌, ◌++◌, fold, slice_index_or}
use Rattle.location_words.specs.declared.pair.Pair.{Pair}
use Rattle.location_words.specs.Pairs.{pair, mul, power}
use Rattle.location_table.specs.declared.entry.Factor.{Factor}
use Rattle.location_table.specs.declared.entry.LocationEntry.{LocationEntry}
use Rattle.location_table.specs.declared.entry.LocationEntry.TheVariants.{Datum, Product}

-- the word of a datum alone
abbrev pub datum_word : ℕ → List Pair
datum_word d = pair d (pos 1) ∷ []

-- the word of a place, by the words of all places, the identity's first
abbrev pub at_place : List (List Pair) → ℕ → List Pair
at_place words k = slice_index_or words k []

-- a word with one more factor, a power of the word of its place: the later factor is the outer one
abbrev pub with_factor : List (List Pair) → List Pair → Factor → List Pair
with_factor words w f = mul (power (at_place words f.place) f.power) w

abbrev pub word_of_factors : List (List Pair) → List Factor → List Pair
word_of_factors words factors = fold (with_factor words) [] factors

-- the words of the places so far, the identity's first, and how many of them are datums
pub record Places : Type 0 where
  pub words : List (List Pair)
  pub datums : ℕ

abbrev pub identity_alone : Places
identity_alone = record { words = [] ∷ []; datums = 0 }

-- An entry takes the next place: a datum also the next number of datums, whatever its decimals, and a product the word
-- of its factors.
abbrev pub with_entry : Places → LocationEntry → Places
with_entry p (Datum texts) = record { words = p.words ++ datum_word (p.datums + 1) ∷ []; datums = p.datums + 1 }
with_entry p (Product factors) = record { words = p.words ++ word_of_factors p.words factors ∷ []; datums = p.datums }

abbrev pub places_of : List LocationEntry → Places
places_of entries = fold with_entry identity_alone entries

-- the words of the places of a section, from the place 0, which is the identity
abbrev pub words_of : List LocationEntry → List (List Pair)
words_of entries = (places_of entries).words

abbrev pub word_of_place : List LocationEntry → ℕ → List Pair
word_of_place entries k = at_place (words_of entries) k

-- the decimals of the datums, in their order
abbrev pub datums_of : List LocationEntry → List (List (List ℕ))
datums_of [] = []
datums_of (Datum texts ∷ entries) = texts ∷ datums_of entries
datums_of (Product factors ∷ entries) = datums_of entries
