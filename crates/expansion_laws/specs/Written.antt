-- The records that a tree is written as: one for each distinct subtree, in the order of first completion.
use Rattle.std.specs.Prelude.{◌≡◌, ℕ, suc, ◌-◌, ◌≤◌, Some, if◌then◌else◌, List, [], ◌∷◌}
use Rattle.std.specs.Prelude.{◌++◌, map, length, reverse, slice_get, unwrap_or, Contains}
use Rattle.std.specs.List.{list_any}
use Rattle.expansion_laws.specs.Trees.{Tree, Use, Uses, node, no_use, a_use, uses, origin}
use Rattle.expansion_laws.specs.Equality.{tree_eq}
use Rattle.expansion_laws.specs.Measures.{depth, subtrees}
use Rattle.expansion_laws.specs.Expansion.{NumberedUse, IsNumberOf, IsFile, expansion, tree_of_number}
use Rattle.expansion_laws.specs.Sharing.{use_with_origins, with_origins, IsShared}

-- The distinct subtrees of a tree in the order of first completion, after those that are complete already: the uses of
-- a node are gone through in order before the node itself.
abbrev mutual
  pub completed : Tree → List Tree → List Tree
  completed (node k us) done =
      if list_any (tree_eq (node k us)) done then done else completed_uses us done ++ node k us ∷ []

  pub completed_uses : Uses → List Tree → List Tree
  completed_uses no_use done = done
  completed_uses (a_use t w x others) done = completed_uses others (completed x done)

abbrev pub flat : Tree → List Tree
flat x = completed x []

-- the number of a tree among those written, in file order: the last has the number 1
abbrev pub number_in : List Tree → Tree → ℕ
number_in [] x = 0
number_in (y ∷ ys) x = if tree_eq x y then suc (length ys) else number_in ys x

-- a use by the number of its tree
abbrev pub numbered : List Tree → Use → NumberedUse
numbered trees u = record { turn = u.turn; word = u.word; number = number_in trees u.tree }

-- the records of these trees, in file order
abbrev pub records_of : List Tree → List (List NumberedUse)
records_of trees = map (λ x. map (numbered trees) (uses x)) trees

-- the origin of each written number
abbrev pub origins_of : List Tree → ℕ → ℕ
origins_of trees k = unwrap_or (slice_get (reverse (map origin trees)) (k - 1)) 0

-- The list has each subtree of the root once, and the root itself last: a number finds its tree, and a tree its number.
pub record ListsSubtrees (root : Tree) (trees : List Tree) : Type 0 where
  pub stand : (x : Tree) → Contains trees x → Contains (subtrees root) x
  pub all : (x : Tree) → Contains (subtrees root) x → Contains trees x
  pub numbers : (x : Tree) → Contains trees x → IsNumberOf (length trees) (number_in trees x)
  pub places : (x : Tree) → Contains trees x → slice_get trees (length trees - number_in trees x) ≡ Some x
  pub once : (k : ℕ) (x : Tree) → IsNumberOf (length trees) k → slice_get trees (length trees - k) ≡ Some x →
      number_in trees x ≡ k
  pub last : number_in trees root ≡ 1

-- These trees' records are a file that expands to the root again, no deeper than the root, and is shared.
pub record IsWritten (root : Use) (trees : List Tree) : Type 0 where
  pub lists : ListsSubtrees root.tree trees
  pub file : IsFile (records_of trees) (numbered trees root)
  pub expands : use_with_origins (origins_of trees) (expansion (records_of trees) (numbered trees root)) ≡ root
  pub stands_for : (x : Tree) → Contains trees x →
      with_origins (origins_of trees) (tree_of_number (records_of trees) (number_in trees x)) ≡ x
  pub depths : (k : ℕ) → IsNumberOf (length trees) k → depth (tree_of_number (records_of trees) k) ≤ depth root.tree
  pub shared : IsShared (records_of trees) (numbered trees root) (origins_of trees)
