-- What a history file says of a history: trees of the input by the numbers of their records, and trees of a root by the
-- numbers with which they are written.
use Rattle.std.specs.Prelude.{◌≡◌, ◌-◌, ℕ, List, [], Contains, length, map, reverse, slice_get, unwrap_or}
use Rattle.expansion_laws.specs.Expansion.{IsNumberOf}
use Rattle.expansion_laws.specs.Trees.{Tree, Use, origin, tree_of}
use Rattle.expansion_laws.specs.Written.{flat}
use Rattle.history_text.specs.declared.file.HistoryFile.{HistoryFile}
use Rattle.history_text.specs.HistoryText.{IsHistory}
use Rattle.step_history.specs.History.{History, modified}
use Rattle.brep_file.specs.declared.file.File.{File}
use Rattle.brep_file.specs.PlainRecords.{tree_of_record}

-- the tree that is written with a number
abbrev pub tree_written : Use → ℕ → Tree
tree_written root number = unwrap_or (slice_get (flat root.tree) (length (flat root.tree) - number)) (tree_of 0 [])

-- the origin of each written number, from 1 on
abbrev pub origins_written : Use → List ℕ
origins_written root = reverse (map origin (flat root.tree))

-- the numbers of a pair: of a record of the input, and of a written record
abbrev pub AreInRange : File → Use → ℕ × ℕ → Type 0
AreInRange f root p = IsNumberOf (length f.records) p.0 × IsNumberOf (length (flat root.tree)) p.1

-- these pairs of numbers are those of a relation of trees of the input with trees of the root
pub record ArePairsOf (f : File) (root : Use) (R : Tree → Tree → Type 0) (pairs : List (ℕ × ℕ)) : Type 0 where
  pub in_range : (p : ℕ × ℕ) → Contains pairs p → AreInRange f root p
  pub each : (p : ℕ × ℕ) → Contains pairs p → R (tree_of_record f p.0) (tree_written root p.1)
  pub all : (t s : Tree) → R t s
      → (p : ℕ × ℕ) × Contains pairs p × (tree_of_record f p.0 ≡ t) × (tree_written root p.1 ≡ s)

-- these numbers of records are those of the trees of which a fact holds
pub record AreNumbersOf (f : File) (P : Tree → Type 0) (numbers : List ℕ) : Type 0 where
  pub in_range : (k : ℕ) → Contains numbers k → IsNumberOf (length f.records) k
  pub each : (k : ℕ) → Contains numbers k → P (tree_of_record f k)
  pub all : (t : Tree) → P t → (k : ℕ) × Contains numbers k × (tree_of_record f k ≡ t)

-- a history file tells a history between the expansion of a file and a root, each list in ascending order
pub record TellsHistory (f : File) (root : Use) (told : History) (h : HistoryFile) : Type 0 where
  pub origins : h.origins ≡ origins_written root
  pub modified_are : ArePairsOf f root (modified told) h.modified
  pub generated_are : ArePairsOf f root told.generated h.generated
  pub removed_are : AreNumbersOf f told.removed h.removed
  pub ascends : IsHistory h
