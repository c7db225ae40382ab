-- The ends of an edge under a sign, and when the ends of two edges are the same.
use Rattle.std.specs.Prelude.{◌≡◌, ◌↔◌, ℕ, Bool, true, false, List, [], ◌∷◌, map, IsPermutation}
use Rattle.lists.specs.Sameness.{same_things}
use Rattle.orientation.specs.declared.turn.Turn.{Turn}
use Rattle.orientation.specs.declared.turn.Turn.TheVariants.{Forward, Reversed}
use Rattle.orientation.specs.Turns.{composed}
use Rattle.expansion_laws.specs.Trees.{Tree, Use, a_single, uses, tree_of}
use Rattle.expansion_laws.specs.Equality.{use_eq}
use Rattle.expansion_laws.specs.Contexts.{bare}
use Rattle.expansion_laws.specs.Examples.{by_datum}

-- the ends of an edge under a sign: its uses, each turned by the sign
abbrev pub ends_under : Turn → Tree → List Use
ends_under sign x = map (λ u. a_single (composed sign u.turn) u.word u.tree) (uses x)

-- the second edge under the sign has the ends of the first one, with repeats and in whatever order
abbrev pub HaveEqualEnds : Tree → Turn → Tree → Type 0
HaveEqualEnds first sign second = IsPermutation (ends_under Forward first) (ends_under sign second)

-- ---- a test of it
abbrev pub have_equal_ends : Tree → Turn → Tree → Bool
have_equal_ends first sign second = same_things use_eq (ends_under Forward first) (ends_under sign second)

abbrev pub EqualEndsTell : Type 0
EqualEndsTell = (first : Tree) (sign : Turn) (second : Tree) →
    (have_equal_ends first sign second ≡ true) ↔ HaveEqualEnds first sign second

-- ---- examples: edges over the vertices 2 and 3
abbrev pub over : List Use → Tree
over us = tree_of 1 us

abbrev pub ahead : ℕ → Use
ahead k = bare (tree_of k [])

abbrev pub back : ℕ → Use
back k = a_single Reversed [] (tree_of k [])

abbrev pub placed : ℕ → Use
placed k = a_single Forward (by_datum 1) (tree_of k [])

pub record EndsComeOut : Type 0 where
  pub itself : have_equal_ends (over (ahead 2 ∷ back 3 ∷ [])) Forward (over (ahead 2 ∷ back 3 ∷ [])) ≡ true
  pub in_any_order : have_equal_ends (over (ahead 2 ∷ back 3 ∷ [])) Forward (over (back 3 ∷ ahead 2 ∷ [])) ≡ true
  pub the_other_way : have_equal_ends (over (ahead 2 ∷ back 3 ∷ [])) Forward (over (ahead 3 ∷ back 2 ∷ [])) ≡ false
  pub turned : have_equal_ends (over (ahead 2 ∷ back 3 ∷ [])) Reversed (over (ahead 3 ∷ back 2 ∷ [])) ≡ true
  pub sign_of_the_second : have_equal_ends (over (ahead 2 ∷ ahead 3 ∷ [])) Reversed (over (back 2 ∷ back 3 ∷ [])) ≡ true
  pub with_repeats :
      have_equal_ends (over (ahead 2 ∷ ahead 2 ∷ back 3 ∷ [])) Forward (over (ahead 2 ∷ back 3 ∷ back 3 ∷ [])) ≡ false
  pub of_one_number : have_equal_ends (over (ahead 2 ∷ [])) Forward (over (ahead 2 ∷ ahead 2 ∷ [])) ≡ false
  pub at_one_place : have_equal_ends (over (placed 2 ∷ [])) Forward (over (ahead 2 ∷ [])) ≡ false
