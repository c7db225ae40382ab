-- Numbers that stand for trees, in the order of first completion.
use Rattle.std.specs.Prelude.{◌≡◌, ℕ, ◌<◌, ◌≤◌, List, map, fold, Contains}
use Rattle.expansion_laws.specs.Trees.{Tree, Use, uses}
use Rattle.expansion_laws.specs.Written.{completed}

-- the distinct subtrees of some trees in the order of first completion, after those that are complete already
abbrev pub completed_all : List Tree → List Tree → List Tree
completed_all xs done = fold (λ before x. completed x before) done xs

-- The numbers below n stand for trees, each over the trees of the numbers that it uses, and different numbers for
-- different trees.
pub record NumbersTell (n : ℕ) (used : ℕ → List ℕ) (tree : ℕ → Tree) : Type 0 where
  pub below : (i : ℕ) → i < n → map (λ (u : Use). u.tree) (uses (tree i)) ≡ map tree (used i)
  pub apart : (i j : ℕ) → i < n → j < n → tree i ≡ tree j → i ≡ j

-- whatever trees they stand for: the numbers go on by a number's subtrees
abbrev pub Completes : ℕ → (ℕ → List ℕ) → ℕ → List ℕ → List ℕ → Type 0
Completes n used i before after =
    (tree : ℕ → Tree) → NumbersTell n used tree → map tree after ≡ completed (tree i) (map tree before)

-- and by those of each of these in turn
abbrev pub CompletesAll : ℕ → (ℕ → List ℕ) → List ℕ → List ℕ → List ℕ → Type 0
CompletesAll n used is before after =
    (tree : ℕ → Tree) → NumbersTell n used tree → map tree after ≡ completed_all (map tree is) (map tree before)

-- from a number on, none has come that wasn't there
abbrev pub NoneFrom : ℕ → List ℕ → List ℕ → Type 0
NoneFrom first before after = (k : ℕ) → first ≤ k → Contains after k → Contains before k
