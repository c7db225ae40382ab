-- What is listed of a root, in whose expansion origins have these kinds.
use Rattle.std.specs.Prelude.{ℕ, List, Option, None, take}
use Rattle.std.specs.List.{flat_map}
use Rattle.orientation.specs.declared.kind.Kind.{Kind}
use Rattle.expansion_laws.specs.Trees.{Use}
use Rattle.expansion_laws.specs.Contexts.{Context}
use Rattle.subshape_maps.specs.Maps.{map_of}
use Rattle.subshape_maps.specs.Above.{above_of}
use Rattle.explorer.specs.Walks.{walk}
use Rattle.shape_listing.specs.declared.listing.Listing.{Listing}
use Rattle.shape_listing.specs.declared.listing.Listing.TheVariants.{Shapes, Above, Walk}
use Rattle.shape_listing.specs.Lines.{shape_line, above_lines, occurrence_line}

-- the accumulated turn and word of a root are its own
abbrev pub own_context : Use → Context
own_context root = record { turn = root.turn; word = root.word }

module _ (kind : ℕ → Kind) where
  -- the shapes of the kind asked for, each at its first place alone
  abbrev pub map_text : Option Kind → Use → List ℕ
  map_text asked root = flat_map shape_line (map_of kind asked root.word root.tree)

  -- the shapes of the low kind, each with those of the high kind above one of its occurrences
  abbrev pub above_text : Kind → Kind → Use → List ℕ
  above_text low high root = flat_map above_lines (above_of kind low high root.word root.tree)

  -- the first occurrences of the kind asked for, so many at most
  abbrev pub walk_text : Option Kind → ℕ → Use → List ℕ
  walk_text asked count root =
      flat_map occurrence_line (take count (walk kind asked None (own_context root) root.tree))

  abbrev pub text_of : Listing → Use → List ℕ
  text_of (Shapes asked) root = map_text asked root
  text_of (Above low high) root = above_text low high root
  text_of (Walk asked count) root = walk_text asked count root
