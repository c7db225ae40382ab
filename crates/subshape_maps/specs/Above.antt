-- Which shapes stand above which.
use Rattle.std.specs.Prelude.{◌≡◌, ℕ, ◌+◌, ◌<◌, ◌&&◌, Bool, not, if◌then◌else◌, List, [], ◌∷◌, ◌++◌}
use Rattle.std.specs.Prelude.{map, length, Contains, Some}
use Rattle.std.specs.List.{filter, list_any, sum_by}
use Rattle.lists.specs.Distinct.{IsDistinct}
use Rattle.orientation.specs.declared.kind.Kind.{Kind}
use Rattle.location_words.specs.declared.pair.Pair.{Pair}
use Rattle.expansion_laws.specs.Trees.{Tree}
use Rattle.shape_pool.specs.declared.node.UseOf.{UseOf}
use Rattle.shape_pool.specs.Rows.{Row, tree_at}
use Rattle.shape_pool.specs.Laws.{word_in}
use Rattle.subshape_maps.specs.declared.fault.MapFault.{MapFault}
use Rattle.subshape_maps.specs.declared.fault.MapFault.TheVariants.{Word, Keys, Pairs, NoMemory}
use Rattle.subshape_maps.specs.declared.shape.ShapeAt.{ShapeAt}
use Rattle.subshape_maps.specs.declared.above.AboveOne.{AboveOne}
use Rattle.subshape_maps.specs.Shapes.{Shape, shape_eq, occurrences_of}
use Rattle.subshape_maps.specs.Maps.{map_of}
use Rattle.subshape_maps.specs.Numbered.{at_eq, shape_by, shapes_by, occurrences_by, root_at}
use Rattle.shape_pool.specs.Rows.{HaveKinds}
use Rattle.subshape_maps.specs.Numbered.{AreHeld, IsHeldAt}
use Rattle.subshape_maps.specs.Refusals.{AreMet, IsDue}

-- whether a high shape stands properly above an occurrence of a low one: that one is among its occurrences, and another
abbrev pub stands_above : Shape → Shape → Bool
stands_above low high = list_any (shape_eq low) (occurrences_of high) && not (shape_eq low high)

-- a low shape, and the high shapes above one of its occurrences
pub record Above : Type 0 where
  pub low : Shape
  pub high : List Shape

abbrev pub an_above : Shape → List Shape → Above
an_above l hs = record { low = l; high = hs }

-- the low shapes of a root, each with the high shapes above one of its occurrences, all in the order of the map
abbrev pub above_of : (ℕ → Kind) → Kind → Kind → List Pair → Tree → List Above
above_of kind low high w x =
    map (λ l. an_above l (filter (stands_above l) (map_of kind (Some high) w x))) (map_of kind (Some low) w x)

-- how many pairs of a low shape and a high one there are
abbrev pub pairs_of : List Above → ℕ
pairs_of rows = sum_by (λ r. length r.high) rows

-- the greatest number of them
abbrev pub most_above : ℕ
most_above = 16777216

-- why the shapes above are refused: as a map is, or else since there are too many pairs
abbrev pub IsDueAbove : List Shape → ℕ → MapFault → Type 0
IsDueAbove shapes pairs (Word f) = IsDue [] shapes (Word f)
IsDueAbove shapes pairs (Keys n) = IsDue [] shapes (Keys n)
IsDueAbove shapes pairs (Pairs n) = AreMet [] shapes × (most_above < pairs) × (n ≡ most_above + 1)
IsDueAbove shapes pairs NoMemory = Unit {0}

-- ---- By number.
abbrev pub a_row : ShapeAt → List ShapeAt → AboveOne
a_row l hs = record { low = l; high = hs }

-- whether a high shape stands above a low one
abbrev pub is_above_at : List (List Pair) → List Row → ShapeAt → ShapeAt → Bool
is_above_at table rows l h = stands_above (shape_by table rows l) (shape_by table rows h)

-- each low shape with those of the high ones that stand above it
abbrev pub rows_of : List (List Pair) → List Row → List ShapeAt → List ShapeAt → List AboveOne
rows_of table rows lows highs = map (λ l. a_row l (filter (is_above_at table rows l) highs)) lows

-- what is meant by a low shape and the high ones above it
abbrev pub above_by : List (List Pair) → List Row → AboveOne → Above
above_by table rows r = an_above (shape_by table rows r.low) (shapes_by table rows r.high)

-- the shapes above the low shapes of a root, by the words of a table
abbrev pub above_in : List (List Pair) → List Row → UseOf → (ℕ → Kind) → Kind → Kind → List Above
above_in table rows root kind low high =
    above_of kind low high (word_in table root.place.0) (tree_at (word_in table) rows root.id.0)

-- the numbers are held, and stand for the shapes above each low shape of a root
pub record IsAboveMap (table : List (List Pair)) (rows : List Row) (root : UseOf) (low high : Kind)
    (above : List AboveOne) : Type 0 where
  pub lows_held : (r : AboveOne) → Contains above r → IsHeldAt table rows r.low
  pub highs_held : (r : AboveOne) → Contains above r → AreHeld table rows r.high
  pub above_is : (kind : ℕ → Kind) → HaveKinds rows kind →
      map (above_by table rows) above ≡ above_in table rows root kind low high

-- the number of pairs of a root
abbrev pub pairs_by : List (List Pair) → List Row → UseOf → (ℕ → Kind) → Kind → Kind → ℕ
pairs_by table rows root kind low high = pairs_of (above_in table rows root kind low high)

-- why the shapes above of a root are refused, whatever kinds the origins have that agree with the nodes'
abbrev pub IsDueAncestors : List (List Pair) → List Row → UseOf → Kind → Kind → MapFault → Type 0
IsDueAncestors table rows root low high fault =
    (kind : ℕ → Kind) → HaveKinds rows kind →
    IsDueAbove (occurrences_by table rows (root_at root)) (pairs_by table rows root kind low high) fault

-- ---- Noting high shapes.
-- how many pairs are noted
abbrev pub counted : List AboveOne → ℕ
counted rows = sum_by (λ (r : AboveOne). length r.high) rows

abbrev pub with_high : ShapeAt → AboveOne → AboveOne
with_high h r = a_row r.low (r.high ++ h ∷ [])

-- a high shape is noted for one low shape
abbrev pub noted : ShapeAt → ShapeAt → List AboveOne → List AboveOne
noted at h rows = map (λ (r : AboveOne). if at_eq r.low at then with_high h r else r) rows

-- a high shape is noted for each low shape that is among others and isn't itself
abbrev pub is_among : List ShapeAt → ShapeAt → ShapeAt → Bool
is_among keys h l = list_any (at_eq l) keys && not (at_eq l h)

abbrev pub all_noted : List ShapeAt → ShapeAt → List AboveOne → List AboveOne
all_noted keys h rows = map (λ (r : AboveOne). if is_among keys h r.low then with_high h r else r) rows

-- the rows are those of these low shapes, each once
pub record HaveLows (lows : List ShapeAt) (rows : List AboveOne) : Type 0 where
  pub lows_are : map (λ (r : AboveOne). r.low) rows ≡ lows
  pub once : IsDistinct lows

-- so many pairs are too many, unless memory is wanting
abbrev pub IsPastPairs : ℕ → MapFault → Type 0
IsPastPairs pairs (Word f) = ⊥
IsPastPairs pairs (Keys n) = ⊥
IsPastPairs pairs (Pairs n) = (most_above < pairs) × (n ≡ most_above + 1)
IsPastPairs pairs NoMemory = Unit {0}
