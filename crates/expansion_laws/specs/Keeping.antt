-- What rewriting keeps: a general induction, and what it gives of kinds, origins and words.
use Rattle.std.specs.Prelude.{◌≡◌, ℕ, Bool, true, false, List, [], Contains}
use Rattle.orientation.specs.declared.kind.Kind.TheVariants.{Co}
use Rattle.orientation.specs.Kinds.{kind_eq, IsBelow}
use Rattle.location_words.specs.declared.pair.Pair.{Pair}
use Rattle.location_words.specs.Pairs.{mul, inverse, IsWord}
use Rattle.expansion_laws.specs.Trees.{Tree, Use, origin, uses, tree_of}
use Rattle.expansion_laws.specs.Measures.{subtrees}
use Rattle.expansion_laws.specs.Contexts.{Context}
use Rattle.expansion_laws.specs.Requests.{Request, replace}
use Rattle.expansion_laws.specs.Steps.{Step, kind}
use Rattle.expansion_laws.specs.Rewriting.{Rewrites, StepsTo}
use Rattle.expansion_laws.specs.Graph.{KindFits}

-- a request of the step replaces a tree by a use
abbrev pub Replaces : Step → Request → Use → Type 0
Replaces s r by = Contains s.requests r × (r.act ≡ replace by)

-- every replace of the step fits
abbrev pub AllFit : Step → Type 0
AllFit s = (r : Request) (by : Use) → Replaces s r by → KindFits s r.source by.tree

-- a test in place of a fact
abbrev pub Passes : {X : Type 0} → (X → Bool) → X → Type 0
Passes test x = test x ≡ true

-- where every replace fits, the results of a use have its kind
abbrev pub ResultsHaveTheKind : Step → Type 0
ResultsHaveTheKind s = AllFit s → (c : Context) (u : Use) (results : List Use) → Rewrites s c u results →
    (v : Use) → Contains results v → kind s v.tree ≡ kind s u.tree

-- What is kept: a fact of trees, one of words, and how the tree of a use stands to those of its results. Each case of
-- the rule keeps them.
pub record IsKept (s : Step) (P : Tree → Type 0) (W : List Pair → Type 0) (R : Tree → Tree → Type 0) : Type 0 where
  pub uses_of_it : (x : Tree) (u : Use) → P x → Contains (uses x) u → P u.tree × W u.word
  pub targets : (r : Request) (by : Use) → Replaces s r by → P by.tree × W by.word
  pub rebuilt : (x : Tree) (below : List Use) → P x →
      ((v : Use) → Contains below v → P v.tree × W v.word × ((u : Use) × Contains (uses x) u × R u.tree v.tree)) →
      P (tree_of (origin x) below)
  pub wrapped : (results : List Use) → ((v : Use) → Contains results v → P v.tree × W v.word) → P (tree_of 0 results)
  pub nothing : W []
  pub products : (a b : List Pair) → W a → W b → W (mul a b)
  pub inverses : (a : List Pair) → W a → W (inverse a)
  pub stays : (x : Tree) (below : List Use) → R x (tree_of (origin x) below)
  pub equal_kinds : (r : Request) (by : Use) (y : Tree) → Replaces s r by →
      kind_eq (kind s r.source) (kind s by.tree) ≡ true →
      R by.tree y → R r.source y
  pub other_kinds : (r : Request) (by u : Use) (y : Tree) → Replaces s r by →
      kind_eq (kind s r.source) (kind s by.tree) ≡ false →
      Contains (uses by.tree) u → R u.tree y → R r.source y

-- what each case keeps holds of all results, and of the new root
pub record RewritingKeeps (s : Step) (P : Tree → Type 0) (W : List Pair → Type 0) (R : Tree → Tree → Type 0)
    : Type 0 where
  pub of_results : (c : Context) (u : Use) (results : List Use) → W c.word → W u.word → P u.tree →
      Rewrites s c u results →
      (v : Use) → Contains results v → P v.tree × W v.word × R u.tree v.tree
  pub of_roots : (root new : Use) → W root.word → P root.tree → StepsTo s root new → P new.tree × W new.word

-- this for any tests of trees, words and pairs of trees
abbrev pub WhatIsKeptIsKept : Step → Type 0
WhatIsKeptIsKept s = (P : Tree → Bool) (W : List Pair → Bool) (R : Tree → Tree → Bool) →
    IsKept s (Passes P) (Passes W) (λ x. Passes (R x)) → RewritingKeeps s (Passes P) (Passes W) (λ x. Passes (R x))

-- a fact of each node of a tree
abbrev pub AllNodes : (Tree → Type 0) → Tree → Type 0
AllNodes N x = (y : Tree) → Contains (subtrees x) y → N y

-- a fact holds of the root's tree and of the trees that replaces bring
abbrev pub HoldsOfGiven : Step → (Tree → Type 0) → Tree → Type 0
HoldsOfGiven s P root = P root × ((r : Request) (by : Use) → Replaces s r by → P by.tree)

-- the origins of all nodes are among these
abbrev pub HasOriginsOf : (ℕ → Type 0) → Tree → Type 0
HasOriginsOf Q = AllNodes (λ y. Q (origin y))

-- where 0 and the origins of what is given are among some, so are those of the new root
abbrev pub OriginsStay : Step → (ℕ → Type 0) → Type 0
OriginsStay s Q = Q 0 → (root new : Use) → HoldsOfGiven s (HasOriginsOf Q) root.tree → StepsTo s root new →
    HasOriginsOf Q new.tree

-- each use of each node has a kind that may stand in the node's
abbrev pub IsInOrder : Step → Tree → Type 0
IsInOrder s = AllNodes (λ y. (u : Use) → Contains (uses y) u → IsBelow (kind s u.tree) (kind s y))

-- where every replace fits, kinds that are in order in what is given are in order in the new root
abbrev pub KindsStayInOrder : Step → Type 0
KindsStayInOrder s = AllFit s → s.kind_of_origin 0 ≡ Co → (root new : Use) → HoldsOfGiven s (IsInOrder s) root.tree →
    StepsTo s root new → IsInOrder s new.tree

-- a word of these datums, and a tree whose uses have such words
abbrev pub IsWordOf : (ℕ → Type 0) → List Pair → Type 0
IsWordOf D w = IsWord w × ((p : Pair) → Contains w p → D p.datum)

abbrev pub HasWordsOf : (ℕ → Type 0) → Tree → Type 0
HasWordsOf D = AllNodes (λ y. (u : Use) → Contains (uses y) u → IsWordOf D u.word)

-- where what is given has words over some datums, so has the new root
abbrev pub WordsStay : Step → (ℕ → Type 0) → Type 0
WordsStay s D = (root new : Use) → HoldsOfGiven s (HasWordsOf D) root.tree → IsWordOf D root.word →
    ((r : Request) (by : Use) → Replaces s r by → IsWordOf D by.word) → StepsTo s root new →
    HasWordsOf D new.tree × IsWordOf D new.word
