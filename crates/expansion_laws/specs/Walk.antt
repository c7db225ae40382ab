-- A walk over a file's records by their numbers, and one over the trees of its expansion.
use Rattle.std.specs.Prelude.{◌≡◌, ℕ, ◌-◌, Some, List, map, length, slice_get, Contains}
use Rattle.expansion_laws.specs.Trees.{Tree, uses, origin}
use Rattle.expansion_laws.specs.Measures.{subtrees}
use Rattle.expansion_laws.specs.Expansion.{NumberedUse, IsNumberOf, expanded, trees_of_file, tree_of_number}

-- Numbers stand for trees one to one: the tree of a number has it as its origin and the uses of the record with that
-- number, and what stands in the tree is the tree of a number again. So a walk over numbers meets what a walk over
-- trees does.
pub record RecordsAreTrees (records : List (List NumberedUse)) : Type 0 where
  pub origins : (k : ℕ) → IsNumberOf (length records) k → origin (tree_of_number records k) ≡ k
  pub apart : (j k : ℕ) → IsNumberOf (length records) j → IsNumberOf (length records) k →
      tree_of_number records j ≡ tree_of_number records k → j ≡ k
  pub same_uses : (k : ℕ) (us : List NumberedUse) → IsNumberOf (length records) k →
      slice_get records (length records - k) ≡ Some us →
      uses (tree_of_number records k) ≡ map (expanded 1 (trees_of_file records)) us
  pub below : (k : ℕ) (x : Tree) → IsNumberOf (length records) k → Contains (subtrees (tree_of_number records k)) x →
      IsNumberOf (length records) (origin x) × (x ≡ tree_of_number records (origin x))
