-- Occurrences of a kind, neither of a kind that is avoided nor below one.
use Rattle.std.specs.Prelude.{◌≡◌, ℕ, Bool, true, false, not, ◌&&◌, ◌||◌, if◌then◌else◌, List, [], ◌∷◌, ◌++◌}
use Rattle.std.specs.Prelude.{Option, None, Some}
use Rattle.std.specs.List.{filter}
use Rattle.orientation.specs.declared.kind.Kind.{Kind}
use Rattle.orientation.specs.Kinds.{kind_eq}
use Rattle.expansion_laws.specs.Trees.{Tree, Uses, node, no_use, a_use, a_single, origin}
use Rattle.expansion_laws.specs.Contexts.{Context, inside}

-- a tree under its accumulated turn and word
pub record Occurrence : Type 0 where
  pub tree : Tree
  pub here : Context

abbrev pub an_occurrence : Context → Tree → Occurrence
an_occurrence here x = record { tree = x; here = here }

-- whether a kind is the one sought; where none is named, each is
abbrev pub is_sought : Option Kind → Kind → Bool
is_sought None k = true
is_sought (Some sought) k = kind_eq k sought

-- whether a kind is the one avoided; where none is named, none is
abbrev pub is_avoided : Option Kind → Kind → Bool
is_avoided None k = false
is_avoided (Some avoided) k = kind_eq k avoided

-- whether an occurrence is of the kind sought, origins having these kinds
abbrev pub is_wanted : (ℕ → Kind) → Option Kind → Occurrence → Bool
is_wanted kind find o = is_sought find (kind (origin o.tree))

module _ (kind : ℕ → Kind) (find avoid : Option Kind) where
  -- The occurrences of the kind sought at and below a tree, neither of the kind avoided nor below one: depth first,
  -- parents before children, uses in order.
  abbrev mutual
    pub walk : Context → Tree → List Occurrence
    walk here (node k us) =
        if is_avoided avoid (kind k) then []
        else (if is_sought find (kind k) then an_occurrence here (node k us) ∷ walk_below here us
        else walk_below here us)

    pub walk_below : Context → Uses → List Occurrence
    walk_below here no_use = []
    walk_below here (a_use t w x others) = walk (inside here (a_single t w x)) x ++ walk_below here others

  -- whether a tree has an occurrence to give
  abbrev mutual
    pub gives : Tree → Bool
    gives (node k us) = not (is_avoided avoid (kind k)) && (is_sought find (kind k) || any_gives us)

    pub any_gives : Uses → Bool
    any_gives no_use = false
    any_gives (a_use t w x others) = gives x || any_gives others

  -- the occurrences that are entered, in this order: those of trees that have one to give
  abbrev mutual
    pub entered : Context → Tree → List Occurrence
    entered here (node k us) =
        if gives (node k us) then an_occurrence here (node k us) ∷ entered_below here us else []

    pub entered_below : Context → Uses → List Occurrence
    entered_below here no_use = []
    entered_below here (a_use t w x others) =
        entered (inside here (a_single t w x)) x ++ entered_below here others

-- the walk is what is entered, without what isn't of the kind sought
abbrev pub WalkIsEntered : Type 0
WalkIsEntered =
    (kind : ℕ → Kind) (find avoid : Option Kind) (here : Context) (x : Tree) →
    walk kind find avoid here x ≡ filter (is_wanted kind find) (entered kind find avoid here x)
