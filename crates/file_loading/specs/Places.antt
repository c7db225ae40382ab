-- The words of places, by their numbers in a table.
use Rattle.std.specs.Prelude.{◌≡◌, ℕ, ◌+◌, ◌<◌, List, Some, length, slice_get, slice_index_or}
use Rattle.location_words.specs.declared.pair.Pair.{Pair}
use Rattle.location_words.specs.declared.table.WordId.{WordId}
use Rattle.location_table.specs.Words.{word_of_place}
use Rattle.location_table.specs.declared.entry.LocationEntry.{LocationEntry}

-- earlier numbers keep their words
abbrev pub KeepsWords : List (List Pair) → List (List Pair) → Type 0
KeepsWords old new = (i : ℕ) (w : List Pair) → slice_get old i ≡ Some w → slice_get new i ≡ Some w

-- the numbers are those of the words of the first places, from the place 0 on
pub record HoldWordsTo (section : List LocationEntry) (table : List (List Pair)) (ids : List WordId) (count : ℕ)
    : Type 0 where
  pub size : length ids ≡ count
  pub words : (place : ℕ) (d : WordId) → place < count
      → slice_get table (slice_index_or ids place d).0 ≡ Some (word_of_place section place)

-- and of those of all places
abbrev pub HoldWordsOf : List LocationEntry → List (List Pair) → List WordId → Type 0
HoldWordsOf section table ids = HoldWordsTo section table ids (length section + 1)
