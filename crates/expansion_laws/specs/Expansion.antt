-- The expansion of a file: the tree of each record, and the root use with its tree.
use Rattle.std.specs.Prelude.{ℕ, suc, ◌-◌, ◌+◌, ◌<◌, ◌≤◌, List, [], ◌∷◌, All}
use Rattle.std.specs.Prelude.{length, map, reverse, slice_get, unwrap_or}
use Rattle.orientation.specs.declared.turn.Turn.{Turn}
use Rattle.location_words.specs.declared.pair.Pair.{Pair}
use Rattle.expansion_laws.specs.Trees.{Tree, Use, a_single, tree_of}

-- a use of a file: a turn, a word and the number of a record
pub record NumberedUse : Type 0 where
  pub turn : Turn
  pub word : List Pair
  pub number : ℕ

-- the tree of a number, given the trees of the numbers from `first` on: past the last it is a bare node of origin 0,
-- and a number below `first` is read as `first`
abbrev pub tree_at : ℕ → List Tree → ℕ → Tree
tree_at first trees number = unwrap_or (slice_get trees (number - first)) (tree_of 0 [])

-- a use with the tree of the record that it names
abbrev pub expanded : ℕ → List Tree → NumberedUse → Use
expanded first trees u = a_single u.turn u.word (tree_at first trees u.number)

-- the trees of the records, given in the order of their numbers from `first` on: each node has its number as its
-- origin, and its uses have the trees of the records that they name, whose numbers are greater
abbrev pub trees_from : ℕ → List (List NumberedUse) → List Tree
trees_from first [] = []
trees_from first (us ∷ rest) =
    tree_of first (map (expanded (suc first) (trees_from (suc first) rest)) us) ∷ trees_from (suc first) rest

-- the trees of a file's records, in the order of their numbers: the last record in the file has the number 1
abbrev pub trees_of_file : List (List NumberedUse) → List Tree
trees_of_file records = trees_from 1 (reverse records)

-- the tree of a record of the file
abbrev pub tree_of_number : List (List NumberedUse) → ℕ → Tree
tree_of_number records number = tree_at 1 (trees_of_file records) number

-- the expansion of a file: its root use with its tree
abbrev pub expansion : List (List NumberedUse) → NumberedUse → Use
expansion records root = expanded 1 (trees_of_file records) root

-- each use names a record with a greater number; the records are given in the order of their numbers from `first` on
abbrev pub NamesAbove : ℕ → List (List NumberedUse) → Type 0
NamesAbove first [] = Unit {0}
NamesAbove first (us ∷ rest) =
    All (λ u. (first < u.number) × (u.number ≤ first + length rest)) us × NamesAbove (suc first) rest

-- a number of a file of n records
abbrev pub IsNumberOf : ℕ → ℕ → Type 0
IsNumberOf n number = (1 ≤ number) × (number ≤ n)

-- records whose uses name records above them, and a root use that names a record
pub record IsFile (records : List (List NumberedUse)) (root : NumberedUse) : Type 0 where
  pub names_above : NamesAbove 1 (reverse records)
  pub names_root : IsNumberOf (length records) root.number
