-- A section as it is written: its datums, and then words.
use Rattle.std.specs.Prelude.{◌≤◌, ◌+◌, ℕ, zero, suc, List, [], ◌∷◌, ◌++◌, map}
use Rattle.std.specs.List.{AllByRecursion}
use Rattle.location_words.specs.declared.pair.Pair.{Pair}
use Rattle.location_words.specs.Pairs.{IsHeldWord}
use Rattle.location_table.specs.declared.entry.LocationEntry.{LocationEntry}
use Rattle.location_table.specs.declared.entry.LocationEntry.TheVariants.{Datum, Product}
use Rattle.location_table.specs.Words.{datum_word}
use Rattle.location_table.specs.Locations.{factor}

-- its datums are numbered from 1 to `datums`
abbrev pub IsOver : ℕ → List Pair → Type 0
IsOver datums w = AllByRecursion (λ p. (1 ≤ p.datum) × (p.datum ≤ datums)) w

-- a word within the limits, over so many datums
pub record IsWordOver (datums : ℕ) (w : List Pair) : Type 0 where
  pub held : IsHeldWord w
  pub over : IsOver datums w

-- the product of a word's pairs, innermost first, where each datum has its number as its place
abbrev pub product_of : List Pair → LocationEntry
product_of w = Product (map (λ p. factor p.datum p.power) w)

-- the words of so many datums, after those of so many
abbrev pub datum_words : ℕ → ℕ → List (List Pair)
datum_words from zero = []
datum_words from (suc n) = datum_word (from + 1) ∷ datum_words (from + 1) n

-- datums, and then the products of words
abbrev pub written_section : List (List (List ℕ)) → List (List Pair) → List LocationEntry
written_section datums words = map Datum datums ++ map product_of words
