-- The laws of the words that are written.
use Rattle.std.specs.Prelude.{◌≡◌, ◌≤◌, ◌+◌, ℕ, List, [], ◌++◌, length, None, Contains}
use Rattle.std.specs.List.{AllByRecursion}
use Rattle.lists.specs.Distinct.{IsDistinct}
use Rattle.entry_readers.specs.Begins.{AreDecimals}
use Rattle.location_words.specs.declared.pair.Pair.{Pair}
use Rattle.location_table.specs.declared.entry.LocationEntry.{LocationEntry}
use Rattle.location_table.specs.Locations.{AreSoundLocations}
use Rattle.location_table.specs.Words.{datums_of, words_of, word_of_place}
use Rattle.location_table.specs.Written.{IsWordOver, written_section}
use Rattle.written_locations.specs.declared.written.WrittenLocations.{WrittenLocations}
use Rattle.written_locations.specs.Added.{Adds, AddsAll, AddsWords, IsNumbering}
use Rattle.written_locations.specs.Further.{fixed_number, further_words, number_of_word}

-- A section has no more datums than entries; in a sound one they are decimals; and the word of each place is among its
-- words.
pub record SectionsHold : Type 0 where
  pub few_datums : (entries : List LocationEntry) → length (datums_of entries) ≤ length entries
  pub datums : (entries : List LocationEntry) → AreSoundLocations entries
      → AllByRecursion (AreDecimals 12) (datums_of entries)
  pub word : (entries : List LocationEntry) (place : ℕ) → place ≤ length entries
      → Contains (words_of entries) (word_of_place entries place)

-- The further words of a list are those of its words that have no number of their own, each once; with its datums, they
-- are no more
-- than a section's entries.
pub record FurtherWordsAreDue : Type 0 where
  pub found : (ws : List (List Pair)) (w : List Pair) → Contains ws w → fixed_number w ≡ None
      → Contains (further_words ws) w
  pub from : (ws : List (List Pair)) (w : List Pair) → Contains (further_words ws) w
      → Contains ws w × (fixed_number w ≡ None)
  pub distinct : (ws : List (List Pair)) → IsDistinct (further_words ws)
  pub few : (entries : List LocationEntry) (further : List (List Pair)) → IsDistinct further
      → ((w : List Pair) → Contains further w → Contains (words_of entries) w × (fixed_number w ≡ None))
      → length (datums_of entries) + length further ≤ length entries

-- The number of a word that is written is a place of the written section, and that place has this very word.
pub record NumbersArePlaces : Type 0 where
  pub size : (datums : List (List (List ℕ))) (further : List (List Pair))
      → length (written_section datums further) ≡ length datums + length further
  pub within : (datums : List (List (List ℕ))) (further : List (List Pair))
      → AllByRecursion (IsWordOver (length datums)) further → (w : List Pair) → IsWordOver (length datums) w
      → (fixed_number w ≡ None → Contains further w)
      → number_of_word (length datums) further w ≤ length (written_section datums further)
  pub word : (datums : List (List (List ℕ))) (further : List (List Pair))
      → AllByRecursion (IsWordOver (length datums)) further → (w : List Pair) → IsWordOver (length datums) w
      → (fixed_number w ≡ None → Contains further w)
      → word_of_place (written_section datums further) (number_of_word (length datums) further w) ≡ w

-- What is added in two parts is added as one list, and nothing is an empty list.
pub record AddedPartsJoin : Type 0 where
  pub none : (s : WrittenLocations) → IsNumbering s → AddsAll [] [] [] s s
  pub all_joined : (ws vs : List (List Pair)) (places others ids more : List ℕ) (s t u : WrittenLocations)
      → AddsAll ws places ids s t → AddsAll vs others more t u
      → AddsAll (ws ++ vs) (places ++ others) (ids ++ more) s u
  pub joined : (first others : List ℕ) (s t u : WrittenLocations) → Adds first s t → Adds others t u
      → Adds (first ++ others) s u
  pub words_joined : (first others : List ℕ) (s t u : WrittenLocations) → AddsWords first s t → AddsWords others t u
      → AddsWords (first ++ others) s u
