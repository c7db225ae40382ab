-- Shapes: trees under accumulated words, as the occurrences of an expansion give them.
use Rattle.std.specs.Prelude.{Bool, ◌&&◌, if◌then◌else◌, List, [], ◌∷◌, ◌++◌, fold}
use Rattle.std.specs.List.{list_any}
use Rattle.location_words.specs.declared.pair.Pair.{Pair}
use Rattle.location_words.specs.Pairs.{mul, pairs_eq}
use Rattle.expansion_laws.specs.Trees.{Tree, Uses, node, no_use, a_use}
use Rattle.expansion_laws.specs.Equality.{tree_eq}

-- a tree, and the accumulated word of the occurrences that it is seen at
pub record Shape : Type 0 where
  pub tree : Tree
  pub word : List Pair

abbrev pub a_shape : Tree → List Pair → Shape
a_shape x w = record { tree = x; word = w }

-- whether two shapes are one
abbrev pub shape_eq : Shape → Shape → Bool
shape_eq a b = tree_eq a.tree b.tree && pairs_eq a.word b.word

-- The shapes of the occurrences of a tree, itself under an accumulated word and those below it: depth first, parents
-- before children, uses in order.
abbrev mutual
  pub occurrences : List Pair → Tree → List Shape
  occurrences w (node k us) = a_shape (node k us) w ∷ occurrences_below w us

  pub occurrences_below : List Pair → Uses → List Shape
  occurrences_below w no_use = []
  occurrences_below w (a_use t v x others) = occurrences (mul w v) x ++ occurrences_below w others

-- the occurrences of a shape
abbrev pub occurrences_of : Shape → List Shape
occurrences_of s = occurrences s.word s.tree

module _ {X : Type 0} (eq : X → X → Bool) where
  -- a list with a thing after it, where it doesn't have it yet
  abbrev pub with_new : List X → X → List X
  with_new met x = if list_any (eq x) met then met else met ++ x ∷ []

  -- a list, and after it the things of another that it doesn't have, each at its first place alone
  abbrev pub first_places_after : List X → List X → List X
  first_places_after met xs = fold with_new met xs

  -- a list with each thing at its first place alone
  abbrev pub first_places : List X → List X
  first_places xs = first_places_after [] xs
