-- Words by their numbers: readings of a table, and how words are moved.
use Rattle.std.specs.Prelude.{◌≡◌, ℕ, ◌<◌, ◌≤◌, List, length, Some, slice_get}
use Rattle.location_words.specs.declared.pair.Pair.{Pair}
use Rattle.location_words.specs.declared.fault.WordFault.{WordFault}
use Rattle.location_words.specs.Pairs.{IsWord, mul}
use Rattle.location_words.specs.Faults.{fault_of, IsDueFault}
use Rattle.location_words.specs.Tables.{IsTable}
use Rattle.key_results.specs.declared.words.Mover.{Mover}

-- a reading gives numbers words, all of them reduced, which are those of a table
pub record ReadsWords (word : ℕ → List Pair) (table : List (List Pair)) : Type 0 where
  pub words : (i : ℕ) → IsWord (word i)
  pub held : (i : ℕ) (w : List Pair) → slice_get table i ≡ Some w → word i ≡ w

-- a table of words grows: earlier numbers keep their words
pub record GrowsTo (old new : List (List Pair)) : Type 0 where
  pub grows : length old ≤ length new
  pub kept : (i : ℕ) (w : List Pair) → slice_get old i ≡ Some w → slice_get new i ≡ Some w
  pub table : IsTable new

-- a number of a table is that of a word, which may be made of others, in each reading
abbrev pub IsNumberOf : List (List Pair) → ℕ → ((ℕ → List Pair) → List Pair) → Type 0
IsNumberOf table k made = (k < length table) × ((word : ℕ → List Pair) → ReadsWords word table → word k ≡ made word)

-- a fault is the one that is due of such a word, in each reading
abbrev pub IsDueAt : List (List Pair) → ((ℕ → List Pair) → List Pair) → WordFault → Type 0
IsDueAt table made fault = (word : ℕ → List Pair) → ReadsWords word table → IsDueFault (fault_of (made word)) fault

-- the word of a use of its own word under a mover
abbrev pub moved_word : (ℕ → List Pair) → Mover → ℕ → List Pair
moved_word word m own = mul (word m.back.0) (mul (word m.by.0) (word own))

-- the words of a mover have numbers below n
abbrev pub IsHeldMover : ℕ → Mover → Type 0
IsHeldMover n m = (m.back.0 < n) × (m.by.0 < n)
