-- The laws of locations.
use Rattle.std.specs.Prelude.{◌≡◌, ◌<◌, ◌^◌, ◌+◌, ℕ, ℤ, List, [], ◌∷◌, ◌++◌, length, map}
use Rattle.std.specs.List.{AllByRecursion}
use Rattle.brep_tokens.specs.Written.{IsPlain}
use Rattle.entry_readers.specs.Begins.{AreDecimals, IsExact}
use Rattle.location_words.specs.declared.pair.Pair.{Pair}
use Rattle.location_words.specs.Pairs.{inverse, mul, norm, power}
use Rattle.location_table.specs.declared.entry.LocationEntry.{LocationEntry}
use Rattle.location_table.specs.declared.entry.LocationEntry.TheVariants.{Datum}
use Rattle.location_table.specs.Words.{datums_of, words_of, word_of_place}
use Rattle.location_table.specs.Locations.{AreSoundLocations, IsSoundLocation, location_at, spell_location}
use Rattle.location_table.specs.Written.{IsOver, IsWordOver, datum_words, product_of, written_section}

-- An entry is read exactly as it is spelled, and each token of a sound one is a plain word.
pub record LocationsAreExact : Type 0 where
  pub location : (before : List LocationEntry) → IsExact (location_at before) spell_location (IsSoundLocation before)
  pub forms : (before : List LocationEntry) (entry : LocationEntry) → IsSoundLocation before entry
      → AllByRecursion IsPlain (spell_location entry)

-- Each place has a word; in a sound section it is within the limits, over the section's datums. Products, inverses and
-- powers have no
-- further datums.
pub record PlacesHaveWords : Type 0 where
  pub length_is : (entries : List LocationEntry) → length (words_of entries) ≡ length entries + 1
  pub kept : (before entries : List LocationEntry) → (more : List (List Pair))
      × (words_of (before ++ entries) ≡ words_of before ++ more)
  pub held : (entries : List LocationEntry) → AreSoundLocations entries
      → AllByRecursion (IsWordOver (length (datums_of entries))) (words_of entries)
  pub reduced : (datums : ℕ) (l : List Pair) → IsOver datums l → IsOver datums (norm l)
  pub product : (datums : ℕ) (outer inner : List Pair) → IsOver datums outer → IsOver datums inner
      → IsOver datums (mul outer inner)
  pub inverted : (datums : ℕ) (w : List Pair) → IsOver datums w → IsOver datums (inverse w)
  pub powered : (datums : ℕ) (w : List Pair) (p : ℤ) → IsOver datums w → IsOver datums (power w p)

-- A word over so many datums, written as the product of its pairs after these datums and other entries, is a sound
-- entry of that
-- very word; so the places of a written section have the identity, the datums, and the written words.
pub record WrittenIsHeld : Type 0 where
  pub sound_entry : (datums : List (List (List ℕ))) (others : List LocationEntry) (w : List Pair)
      → length datums < 10 ^ 18 → IsWordOver (length datums) w
      → IsSoundLocation (map Datum datums ++ others) (product_of w)
  pub word : (datums : List (List (List ℕ))) (others : List LocationEntry) (w : List Pair)
      → IsWordOver (length datums) w
      → word_of_place ((map Datum datums ++ others) ++ product_of w ∷ []) (length datums + length others + 1) ≡ w
  pub sound_section : (datums : List (List (List ℕ))) (words : List (List Pair)) → length datums < 10 ^ 18
      → AllByRecursion (AreDecimals 12) datums → AllByRecursion (IsWordOver (length datums)) words
      → AreSoundLocations (written_section datums words)
  pub words : (datums : List (List (List ℕ))) (words : List (List Pair))
      → AllByRecursion (IsWordOver (length datums)) words
      → words_of (written_section datums words) ≡ [] ∷ (datum_words 0 (length datums) ++ words)
  pub datums_are : (datums : List (List (List ℕ))) (words : List (List Pair))
      → datums_of (written_section datums words) ≡ datums
