-- A section as it is held: its entries, the words of their places, and the places of its datums.
use Rattle.std.specs.Prelude.{◌≡◌, ◌≤◌, ℕ, List, [], ◌∷◌, length, map, Some, slice_get}
use Rattle.location_words.specs.declared.pair.Pair.{Pair}
use Rattle.location_table.specs.declared.entry.LocationEntry.{LocationEntry}
use Rattle.location_table.specs.declared.entry.LocationEntry.TheVariants.{Datum, Product}
use Rattle.location_table.specs.Words.{datums_of, words_of}
use Rattle.location_table.specs.Limits.{AreWithin}

-- a product has powers of earlier places, within the limits after each factor
abbrev pub CanAdd : List LocationEntry → LocationEntry → Type 0
CanAdd before (Datum texts) = Unit {0}
CanAdd before (Product factors) = AreWithin (length before) (words_of before) [] factors

abbrev pub most_entries : ℕ
most_entries = 4294967295

pub record IsSection (identity : List Pair) (entries : List LocationEntry) (words : List (List Pair))
    (places : List ℕ) : Type 0 where
  pub none : identity ≡ []
  pub few : length entries ≤ most_entries
  pub words_are : [] ∷ words ≡ words_of entries
  pub each : length words ≡ length entries
  pub some : length places ≤ length entries
  pub datums : map (slice_get entries) places ≡ map (λ texts. Some (Datum texts)) (datums_of entries)
