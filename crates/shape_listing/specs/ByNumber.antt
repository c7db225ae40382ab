-- Lines of shapes by their numbers in a pool and a table of words, and what an explorer is still to tell.
use Rattle.std.specs.Prelude.{◌≡◌, ℕ, List, ◌∷◌, ◌++◌, codes, Contains, Option, None, take}
use Rattle.std.specs.List.{filter, flat_map}
use Rattle.orientation.specs.declared.kind.Kind.{Kind}
use Rattle.orientation.specs.Turns.{sign_of}
use Rattle.location_words.specs.declared.pair.Pair.{Pair}
use Rattle.shape_pool.specs.Rows.{Row, origin_at}
use Rattle.shape_pool.specs.Laws.{word_in}
use Rattle.subshape_maps.specs.declared.shape.ShapeAt.{ShapeAt}
use Rattle.subshape_maps.specs.declared.above.AboveOne.{AboveOne}
use Rattle.subshape_maps.specs.Numbered.{AreHeld, IsHeldAt}
use Rattle.explorer.specs.declared.found.Found.{Found}
use Rattle.explorer.specs.Going.{Going, left}
use Rattle.explorer.specs.Walks.{is_wanted}
use Rattle.shape_listing.specs.declared.fault.ListingFault.{ListingFault}
use Rattle.shape_listing.specs.Lines.{line_of, occurrence_line}
use Rattle.shape_listing.specs.Causes.{entered_to, words_due}

module _ (table : List (List Pair)) (rows : List Row) where
  abbrev pub line_at : ShapeAt → List ℕ
  line_at s = line_of (origin_at rows s.id.0) (word_in table s.word.0)

  abbrev pub lines_at : List ShapeAt → List ℕ
  lines_at shapes = flat_map line_at shapes

  abbrev pub high_line_at : ShapeAt → List ℕ
  high_line_at s = codes "  " ++ line_at s

  abbrev pub high_lines_at : List ShapeAt → List ℕ
  high_lines_at shapes = flat_map high_line_at shapes

  abbrev pub row_lines_at : AboveOne → List ℕ
  row_lines_at r = line_at r.low ++ high_lines_at r.high

  abbrev pub rows_lines_at : List AboveOne → List ℕ
  rows_lines_at above = flat_map row_lines_at above

  -- the numbers of low and high shapes are held
  pub record AreRowsHeld (above : List AboveOne) : Type 0 where
    pub lows : (r : AboveOne) → Contains above r → IsHeldAt table rows r.low
    pub highs : (r : AboveOne) → Contains above r → AreHeld table rows r.high

-- the line of a node that an explorer gives
abbrev pub found_line : List Row → Found → List Pair → List ℕ
found_line rows f w = sign_of f.turn ∷ line_of (origin_at rows f.id.0) w

-- an explorer over these nodes that hasn't been refused
pub record IsExploring (rows : List Row) (g : Going) : Type 0 where
  pub rows_are : g.rows ≡ rows
  pub unlimited : g.limit ≡ None

-- the lines of the next occurrences that an explorer gives, so many at most, and why it doesn't give them
abbrev pub lines_left : (ℕ → Kind) → ℕ → Going → List ℕ
lines_left kind count g =
    flat_map occurrence_line (take count (filter (is_wanted kind g.find) (left kind g)))

abbrev pub due_left : (ℕ → Kind) → ℕ → Going → Option ListingFault
due_left kind count g = words_due (entered_to (is_wanted kind g.find) count (left kind g))

-- After so many occurrences of those that are to be told: the explorer is the same one and hasn't been refused, its
-- lines so far were handed in, and those still to come and what is due are left.
pub record HasTold (gives : List ℕ → Type 0) (kind : ℕ → Kind) (first : Going) (count : ℕ) (now : Going) (left : ℕ)
    : Type 0 where
  pub done : List ℕ
  pub given : gives done
  pub lines : lines_left kind count first ≡ done ++ lines_left kind left now
  pub due : due_left kind count first ≡ due_left kind left now
