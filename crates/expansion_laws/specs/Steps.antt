-- Steps: the requests that are carried out together, the rule by which they are, and what a replace puts in a use's
-- place.
use Rattle.std.specs.Prelude.{ℕ, Bool, if◌then◌else◌, Option, None, Some, List, [], ◌∷◌, map}
use Rattle.orientation.specs.declared.turn.Turn.TheVariants.{Forward}
use Rattle.orientation.specs.declared.kind.Kind.{Kind}
use Rattle.orientation.specs.Kinds.{kind_eq}
use Rattle.orientation.specs.declared.rule.Rule.{Rule}
use Rattle.orientation.specs.Rules.{is_above}
use Rattle.location_words.specs.declared.pair.Pair.{Pair}
use Rattle.location_words.specs.Pairs.{inverse}
use Rattle.expansion_laws.specs.Trees.{Tree, Use, a_single, origin, uses, tree_of}
use Rattle.expansion_laws.specs.Contexts.{Context, carried}
use Rattle.expansion_laws.specs.Requests.{Request}

-- what a step goes by: the kind of each origin, its requests in the order given, and its rule
pub record Step : Type 0 where
  pub kind_of_origin : ℕ → Kind
  pub requests : List Request
  pub rule : Rule

-- the kind of a tree is that of its origin
abbrev pub kind : Step → Tree → Kind
kind s x = s.kind_of_origin (origin x)

-- whether a tree that no request meets is entered: its kind is higher than the stop kind
abbrev pub is_entered : Step → Tree → Bool
is_entered s x = is_above s.rule.stop (kind s x)

-- the uses that are gone through where no request meets the tree
abbrev pub entered : Step → Tree → List Use
entered s x = if is_entered s x then uses x else []

-- the word by which a replace moves what it brings: that of the use, or under a place the inverse of the context's
abbrev pub moving_word : Context → Use → Option (List Pair) → List Pair
moving_word c u None = u.word
moving_word c u (Some place) = inverse c.word

-- the new use of a replace
abbrev pub new_use : Context → Use → Option (List Pair) → Use → Use
new_use c u place by = carried u.turn (moving_word c u place) by

-- the uses that go on after a replace: the new use where kinds are equal, else the uses of the target under it
abbrev pub onward : Step → Tree → Use → List Use
onward s source new =
    if kind_eq (kind s source) (kind s new.tree)
    then new ∷ []
    else map (carried new.turn new.word) (uses new.tree)

-- the new root: the one result, or a compound of origin 0 over all of them
abbrev pub root_of : List Use → Use
root_of (r ∷ []) = r
root_of results = a_single Forward [] (tree_of 0 results)
