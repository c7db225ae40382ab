-- Shapes by the numbers of their nodes and words, and the shapes that these stand for.
use Rattle.std.specs.Prelude.{◌≡◌, ℕ, suc, ◌<◌, ◌≤◌, ◌&&◌, Bool, nat_eq, List, map, length, Contains}
use Rattle.std.specs.Prelude.{slice_get, Option, Some}
use Rattle.orientation.specs.declared.kind.Kind.{Kind}
use Rattle.location_words.specs.declared.pair.Pair.{Pair}
use Rattle.location_words.specs.declared.table.WordId.{WordId}
use Rattle.location_words.specs.Pairs.{mul}
use Rattle.location_words.specs.Tables.{IsTable}
use Rattle.expansion_laws.specs.Measures.{depth}
use Rattle.shape_pool.specs.declared.node.UseOf.{UseOf}
use Rattle.shape_pool.specs.Rows.{Row, kind_at, origin_at, tree_at, HasPlaces, HaveKinds}
use Rattle.shape_pool.specs.Laws.{word_in}
use Rattle.subshape_maps.specs.declared.fault.MapFault.{MapFault}
use Rattle.subshape_maps.specs.declared.shape.ShapeAt.{ShapeAt}
use Rattle.subshape_maps.specs.Shapes.{Shape, a_shape, shape_eq, occurrences_of, first_places_after}
use Rattle.subshape_maps.specs.Maps.{is_asked, map_of}
use Rattle.subshape_maps.specs.Refusals.{most_shapes, AreMet, IsDue}

-- whether two numbered shapes are one
abbrev pub at_eq : ShapeAt → ShapeAt → Bool
at_eq a b = nat_eq a.id.0 b.id.0 && nat_eq a.word.0 b.word.0

-- the root as a numbered shape: its accumulated word is its own
abbrev pub root_at : UseOf → ShapeAt
root_at root = record { id = root.id; word = root.place }

module _ (table : List (List Pair)) (rows : List Row) where
  -- the shape that numbers stand for, by the words of a table
  abbrev pub shape_by : ShapeAt → Shape
  shape_by s = a_shape (tree_at (word_in table) rows s.id.0) (word_in table s.word.0)

  abbrev pub shapes_by : List ShapeAt → List Shape
  shapes_by seen = map shape_by seen

  -- its occurrences
  abbrev pub occurrences_by : ShapeAt → List Shape
  occurrences_by s = occurrences_of (shape_by s)

  -- the numbers are held
  abbrev pub IsHeldAt : ShapeAt → Type 0
  IsHeldAt s = (s.id.0 < length rows) × (s.word.0 < length table)

  abbrev pub AreHeld : List ShapeAt → Type 0
  AreHeld seen = (s : ShapeAt) → Contains seen s → IsHeldAt s

-- the accumulated word of a use of a place below one of a word
abbrev pub joined_in : List (List Pair) → WordId → WordId → List Pair
joined_in table above place = mul (word_in table above.0) (word_in table place.0)

-- a table of words may grow: each number that it held keeps its word
abbrev pub Grows : List (List Pair) → List (List Pair) → Type 0
Grows old new = (i : ℕ) (w : List Pair) → slice_get old i ≡ Some w → slice_get new i ≡ Some w

-- whether a numbered shape is of the kind asked for
abbrev pub is_asked_at : List Row → Option Kind → ShapeAt → Bool
is_asked_at rows asked s = is_asked asked (kind_at rows s.id.0)

-- the numbered shapes are held, and stand for the map of a root, by the words of a table, whatever kinds the origins
-- have that agree with the nodes'
pub record IsMap (table : List (List Pair)) (rows : List Row) (root : UseOf) (asked : Option Kind)
    (shapes : List ShapeAt) : Type 0 where
  pub held : AreHeld table rows shapes
  pub map_is : (kind : ℕ → Kind) → HaveKinds rows kind →
      shapes_by table rows shapes ≡
      map_of kind asked (word_in table root.place.0) (tree_at (word_in table) rows root.id.0)

-- ---- Going through the occurrences.
-- what was met below a depth was met with all its occurrences
abbrev pub IsClosed : ℕ → List Shape → Type 0
IsClosed deep met =
    (s : Shape) → Contains met s → depth s.tree < deep → (y : Shape) → Contains (occurrences_of s) y → Contains met y

-- A shape may be met after others: numbers are held, and what was met before and is no deeper was met whole.
pub record IsReady (table : List (List Pair)) (rows : List Row) (seen : List ShapeAt) (at : ShapeAt) : Type 0 where
  pub words : IsTable table
  pub places : HasPlaces rows (length table)
  pub held : AreHeld table rows seen
  pub at_held : IsHeldAt table rows at
  pub few : length seen ≤ most_shapes
  pub closed : IsClosed (suc (depth (tree_at (word_in table) rows at.id.0))) (shapes_by table rows seen)

-- all occurrences of a shape were met, after others and within the limits
pub record Meets (old new : List (List Pair)) (rows : List Row) (seen seen' : List ShapeAt)
    (at : ShapeAt) : Type 0 where
  pub held : AreHeld new rows seen'
  pub shapes : shapes_by new rows seen' ≡
      first_places_after shape_eq (shapes_by old rows seen) (occurrences_by old rows at)
  pub within : AreMet (shapes_by old rows seen) (occurrences_by old rows at)

-- why they aren't
abbrev pub IsDueAfter : List (List Pair) → List Row → List ShapeAt → ShapeAt → MapFault → Type 0
IsDueAfter table rows seen at fault = IsDue (shapes_by table rows seen) (occurrences_by table rows at) fault
