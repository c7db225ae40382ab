-- The map of the shapes of a root, and which shapes stand above which.
use Rattle.std.specs.Prelude.{ℕ, Bool, true, List, Option, None, Some}
use Rattle.std.specs.List.{filter}
use Rattle.orientation.specs.declared.kind.Kind.{Kind}
use Rattle.orientation.specs.Kinds.{kind_eq}
use Rattle.location_words.specs.declared.pair.Pair.{Pair}
use Rattle.expansion_laws.specs.Trees.{Tree, origin}
use Rattle.subshape_maps.specs.Shapes.{Shape, shape_eq, occurrences, first_places}

-- whether a kind is the one asked for; where none is, each is
abbrev pub is_asked : Option Kind → Kind → Bool
is_asked None k = true
is_asked (Some asked) k = kind_eq k asked

-- whether a shape is of the kind asked for, origins having these kinds
abbrev pub is_of : (ℕ → Kind) → Option Kind → Shape → Bool
is_of kind asked s = is_asked asked (kind (origin s.tree))

-- the shapes of a kind in the expansion of a tree under a word, each at its first place alone
abbrev pub map_of : (ℕ → Kind) → Option Kind → List Pair → Tree → List Shape
map_of kind asked w x = first_places shape_eq (filter (is_of kind asked) (occurrences w x))
