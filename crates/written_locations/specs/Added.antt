-- The numbers of the words that have been added so far: of words of a section's places, and of words of a table.
use Rattle.std.specs.Prelude.{◌≡◌, ◌⊎◌, ◌+◌, ◌<◌, ◌≤◌, ℕ, List, [], ◌∷◌, drop, fold, length, map, slice_get}
use Rattle.std.specs.Prelude.{slice_index}
use Rattle.std.specs.Prelude.{Contains, Option, None, unwrap_or}
use Rattle.location_words.specs.declared.pair.Pair.{Pair}
use Rattle.location_table.specs.Held.{most_entries}
use Rattle.location_table.specs.Words.{datums_of, word_of_place}
use Rattle.written_locations.specs.declared.written.WrittenLocations.{WrittenLocations}
use Rattle.written_locations.specs.Further.{fixed_number, number_of_word, with_word}

-- the further words so far: the table of these begins with the identity
abbrev pub further_of : WrittenLocations → List (List Pair)
further_of s = drop 1 s.words

-- the word of a place of the section
abbrev pub word_at : WrittenLocations → ℕ → List Pair
word_at s place = word_of_place s.section.now place

-- the word of a number of the table
abbrev pub word_of_id : WrittenLocations → ℕ → List Pair
word_of_id s id = unwrap_or (slice_get s.table.now id) []

-- the number of a word among those so far
abbrev pub number_at : WrittenLocations → List Pair → ℕ
number_at s w = number_of_word (length (datums_of s.section.now)) (further_of s) w

-- the number of a place's word
abbrev pub location_number : WrittenLocations → ℕ → ℕ
location_number s place = number_at s (word_at s place)

-- the number of a word of the table
abbrev pub word_number : WrittenLocations → ℕ → ℕ
word_number s id = number_at s (word_of_id s id)

-- the word is a further word, unless its number is fixed
abbrev pub HoldsWord : WrittenLocations → List Pair → Type 0
HoldsWord s w = fixed_number w ≡ None → Contains (further_of s) w

-- a word whose number, among further words after so many datums, is noted at a position
pub record IsNoted (datums : ℕ) (further : List (List Pair)) (noted : List ℕ) (k : ℕ) (w : List Pair) : Type 0 where
  pub number : slice_index noted k ≡ number_of_word datums further w
  pub held : fixed_number w ≡ None → Contains further w

abbrev pub HasNumber : WrittenLocations → List ℕ → ℕ → List Pair → Type 0
HasNumber s noted k w = IsNoted (length (datums_of s.section.now)) (further_of s) noted k w

-- a place whose word has its number
abbrev pub IsAdded : WrittenLocations → ℕ → Type 0
IsAdded s place = HasNumber s s.of_places.items place (word_at s place)

-- a word of the table that has its number
abbrev pub IsWordAdded : WrittenLocations → ℕ → Type 0
IsWordAdded s id = HasNumber s s.of_words.items id (word_of_id s id)

-- A number for each place, and for each word of the table: 0 stands for one that wasn't added yet.
pub record IsNumbering (s : WrittenLocations) : Type 0 where
  pub few : length s.section.now ≤ most_entries
  pub words : s.words ≡ [] ∷ further_of s
  pub size : length s.of_places.items ≡ length s.section.now + 1
  pub table_size : length s.of_words.items ≡ length s.table.now
  pub known : (place : ℕ) → place ≤ length s.section.now → (slice_index s.of_places.items place ≡ 0) ⊎ IsAdded s place
  pub known_words : (id : ℕ) → id < length s.table.now → (slice_index s.of_words.items id ≡ 0) ⊎ IsWordAdded s id

-- A word is entered among the further words where it is a new one; its number is noted nowhere yet.
pub record Enters (w : List Pair) (old new : WrittenLocations) : Type 0 where
  pub section : new.section ≡ old.section
  pub table : new.table ≡ old.table
  pub of_places : new.of_places ≡ old.of_places
  pub of_words : new.of_words ≡ old.of_words
  pub numbering : IsNumbering new
  pub words : further_of new ≡ with_word (further_of old) w
  pub held : HoldsWord new w
  pub kept : (k : ℕ) → IsAdded old k → IsAdded new k
  pub words_kept : (k : ℕ) → IsWordAdded old k → IsWordAdded new k

-- These words are entered one after another, and so these places and these words of the table are added.
pub record AddsAll (ws : List (List Pair)) (places ids : List ℕ) (old new : WrittenLocations) : Type 0 where
  pub section : new.section.now ≡ old.section.now
  pub table : new.table.now ≡ old.table.now
  pub numbering : IsNumbering new
  pub words : further_of new ≡ fold with_word (further_of old) ws
  pub added : (k : ℕ) → Contains places k → IsAdded new k
  pub words_added : (k : ℕ) → Contains ids k → IsWordAdded new k
  pub kept : (k : ℕ) → IsAdded old k → IsAdded new k
  pub words_kept : (k : ℕ) → IsWordAdded old k → IsWordAdded new k

-- these places are added one after another
abbrev pub Adds : List ℕ → WrittenLocations → WrittenLocations → Type 0
Adds places old new = AddsAll (map (word_at old) places) places [] old new

-- and these words of the table
abbrev pub AddsWords : List ℕ → WrittenLocations → WrittenLocations → Type 0
AddsWords ids old new = AddsAll (map (word_of_id old) ids) [] ids old new
