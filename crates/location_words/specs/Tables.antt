-- Tables that number words.
use Rattle.std.specs.Prelude.{◌≡◌, ◌↔◌, ℕ, All, List, [], ◌∷◌, ◌++◌, Option, Some, slice_get, position, if◌then◌else◌}
use Rattle.std.specs.List.{list_any}
use Rattle.location_words.specs.declared.pair.Pair.{Pair}
use Rattle.location_words.specs.Pairs.{pairs_eq, IsHeldWord}

-- the table with a word entered: it stays where it holds the word, and else the word goes last
abbrev pub entered : List (List Pair) → List Pair → List (List Pair)
entered table w = if list_any (pairs_eq w) table then table else table ++ w ∷ []

-- the number of a word, if the table holds it
abbrev pub number_of : List (List Pair) → List Pair → Option ℕ
number_of table w = position (pairs_eq w) table

-- of the table's words the number is that of this one alone
abbrev pub TellsApart : List (List Pair) → List Pair → ℕ → Type 0
TellsApart table w n = (i : ℕ) (v : List Pair) → slice_get table i ≡ Some v → (i ≡ n) ↔ (v ≡ w)

-- a table numbers words: the identity has the number 0, each entry is a word within the limits, and no word has two
-- numbers
pub record IsTable (table : List (List Pair)) : Type 0 where
  pub identity : slice_get table 0 ≡ Some []
  pub words : All IsHeldWord table
  pub distinct : (i j : ℕ) (w : List Pair) → slice_get table i ≡ Some w → slice_get table j ≡ Some w → i ≡ j
