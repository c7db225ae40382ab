-- The order in which the numbers of a pool are written.
use Rattle.std.specs.Prelude.{◌≡◌, ℕ, ◌<◌, ◌≤◌, List, All, Contains, length, map}
use Rattle.location_words.specs.declared.pair.Pair.{Pair}
use Rattle.location_words.specs.Tables.{IsTable}
use Rattle.expansion_laws.specs.Expansion.{IsFile, NumberedUse, expansion}
use Rattle.expansion_laws.specs.Sharing.{use_with_origins}
use Rattle.expansion_laws.specs.Trees.{Use}
use Rattle.expansion_laws.specs.Written.{flat, number_in}
use Rattle.shape_pool.specs.Laws.{IsSound, ids_used, word_in}
use Rattle.shape_pool.specs.Rows.{Row, HasPlaces, tree_at}
use Rattle.written_order.specs.Numbering.{NumbersTell}
use Rattle.written_order.specs.Placed.{IsNumbered}

-- The numbers of a pool tell its trees apart, under a table that holds the words of all uses.
abbrev pub PoolsTell : Type 0
PoolsTell =
    (rows : List Row) (table : List (List Pair)) → IsSound rows → IsTable table → HasPlaces rows (length table)
    → NumbersTell (length rows) (ids_used rows) (tree_at (word_in table) rows)

-- The numbers stand for the distinct trees below and at the root, in the order of first completion.
pub record IsOrderOf (rows : List Row) (root : ℕ) (numbers : List ℕ) : Type 0 where
  pub held : All (λ i. i < length rows) numbers
  pub trees : (table : List (List Pair)) → IsTable table → HasPlaces rows (length table)
      → map (tree_at (word_in table) rows) numbers ≡ flat (tree_at (word_in table) rows root)

-- each file that expands to the root, whatever origins its numbers stand for, has so many records at least
abbrev pub HasAsManyAtLeast : Use → ℕ → Type 0
HasAsManyAtLeast root count =
    (records : List (List NumberedUse)) (file_root : NumberedUse) (origin_of : ℕ → ℕ) → IsFile records file_root
    → use_with_origins origin_of (expansion records file_root) ≡ root → count ≤ length records

-- A number's place, counted from the last, is the number with which its tree is written; a number that isn't there
-- stands for a tree that isn't written; and no other file for the root has fewer records.
pub record OrdersNumberTrees (rows : List Row) (table : List (List Pair)) : Type 0 where
  pub number : (root i n : ℕ) (numbers : List ℕ) → IsOrderOf rows root numbers → IsNumbered numbers i n
      → number_in (flat (tree_at (word_in table) rows root)) (tree_at (word_in table) rows i) ≡ n
  pub none : (root i : ℕ) (numbers : List ℕ) → IsOrderOf rows root numbers → i < length rows
      → (Contains numbers i → ⊥)
      → Contains (flat (tree_at (word_in table) rows root)) (tree_at (word_in table) rows i) → ⊥
  pub fewest : (root : ℕ) (numbers : List ℕ) (at : Use) → IsOrderOf rows root numbers
      → at.tree ≡ tree_at (word_in table) rows root → HasAsManyAtLeast at (length numbers)

-- in every pool, under each table that holds the words of all uses
abbrev pub OrdersNumber : Type 0
OrdersNumber =
    (rows : List Row) (table : List (List Pair)) → IsSound rows → IsTable table → HasPlaces rows (length table)
    → OrdersNumberTrees rows table
