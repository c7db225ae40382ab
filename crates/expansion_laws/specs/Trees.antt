-- Trees of shapes: a node has a label and a list of uses, and a use is a turn, a word and a tree.
use Rattle.std.specs.Prelude.{ℕ, List, [], ◌∷◌}
use Rattle.orientation.specs.declared.turn.Turn.{Turn}
use Rattle.location_words.specs.declared.pair.Pair.{Pair}

mutual
  -- a node of a label and uses
  pub data LabelledTree (L : Type 0) : Type 0 where
    node : (label : L) → (uses : LabelledUses L) → LabelledTree L
    deriving IsSet as LabelledTree-set

  -- uses in order: none, or one of a turn, a word and a tree before the others
  pub data LabelledUses (L : Type 0) : Type 0 where
    no_use : LabelledUses L
    a_use : (turn : Turn) → (word : List Pair) → (tree : LabelledTree L) → (others : LabelledUses L) → LabelledUses L
    deriving IsSet as LabelledUses-set

-- one use: a tree, and the turn and the word (the location) under which it stands
pub record LabelledUse (L : Type 0) : Type 0 where
  pub turn : Turn
  pub word : List Pair
  pub tree : LabelledTree L

-- a tree whose labels are origins: the number of an input record, or 0 for a compound made at the root
abbrev pub Tree : Type 0
Tree = LabelledTree ℕ

abbrev pub Uses : Type 0
Uses = LabelledUses ℕ

abbrev pub Use : Type 0
Use = LabelledUse ℕ

module _ {L : Type 0} where
  abbrev pub a_single : Turn → List Pair → LabelledTree L → LabelledUse L
  a_single t w x = record { turn = t; word = w; tree = x }

  -- the uses as a list
  abbrev pub list_of : LabelledUses L → List (LabelledUse L)
  list_of no_use = []
  list_of (a_use t w x others) = a_single t w x ∷ list_of others

  -- the list as uses
  abbrev pub uses_of : List (LabelledUse L) → LabelledUses L
  uses_of [] = no_use
  uses_of (u ∷ us) = a_use u.turn u.word u.tree (uses_of us)

  -- the label of a tree's node, and the node's uses
  abbrev pub label_of : LabelledTree L → L
  label_of (node k us) = k

  abbrev pub uses : LabelledTree L → List (LabelledUse L)
  uses (node k us) = list_of us

  -- the tree of a label and a list of uses
  abbrev pub tree_of : L → List (LabelledUse L) → LabelledTree L
  tree_of k us = node k (uses_of us)

-- the origin of a tree
abbrev pub origin : Tree → ℕ
origin = label_of
