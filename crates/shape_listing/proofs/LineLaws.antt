-- Lines of shapes by number are those of the shapes.
use Rattle.std.proofs.Common.{◌≡◌, ◌∙◌, ◌<◌, refl, sym, ap}
use Rattle.std.specs.Prelude.{ℕ, List, [], ◌∷◌, ◌++◌, map, length, Contains, Some, slice_get, slice_index_or}
use Rattle.std.specs.Prelude.{unwrap_or}
use Rattle.std.specs.List.{flat_map}
use Rattle.lists.proofs.Members.{Contains-here, Contains-there}
use Rattle.std.proofs.lemmas.Option.{slice_get-get_or}
use Rattle.lists.proofs.Places.{at_place, Contains-at}
use Rattle.location_words.specs.declared.pair.Pair.{Pair}
use Rattle.expansion_laws.specs.Trees.{origin}
use Rattle.shape_pool.specs.Rows.{Row, origin_at, tree_at, HasPlaces}
use Rattle.shape_pool.specs.Laws.{word_in, IsSound}
use Rattle.subshape_maps.specs.declared.shape.ShapeAt.{ShapeAt}
use Rattle.subshape_maps.specs.declared.above.AboveOne.{AboveOne}
use Rattle.subshape_maps.specs.Above.{above_by}
use Rattle.subshape_maps.specs.Numbered.{shape_by, shapes_by, AreHeld, IsHeldAt, Grows}
use Rattle.shape_listing.specs.Lines.{above_lines, high_line, line_of, shape_line}
use Rattle.shape_listing.specs.ByNumber.{high_lines_at, line_at, lines_at, rows_lines_at}
use Rattle.shape_listing.specs.ByNumber.{AreRowsHeld}

-- ---- words of a table
pub word-at : (table : List (List Pair)) (i : ℕ) (w : List Pair) → slice_get table i ≡ Some w → w ≡ word_in table i
word-at table i w e = ap (λ o. unwrap_or o []) (sym e)

pub word-stays : (old new : List (List Pair)) → Grows old new → (i : ℕ) → i < length old
    → word_in new i ≡ word_in old i
word-stays old new grows i lt =
    let r = at_place old i lt in
    ap (λ o. unwrap_or o []) (grows i r.0 r.1 ∙ sym r.1)

module _ (rows : List Row) (sound : IsSound rows) where
  pub tree-stays : (old new : List (List Pair)) → Grows old new → HasPlaces rows (length old) → (i : ℕ)
      → i < length rows → tree_at (word_in new) rows i ≡ tree_at (word_in old) rows i
  tree-stays old new grows places i lt = sym (sound.trees_read_alike.tables old new places grows i lt)

  -- the origin of a number's tree is the number's
  pub origin-of : (table : List (List Pair)) (i : ℕ) → i < length rows
      → origin (tree_at (word_in table) rows i) ≡ origin_at rows i
  origin-of table i lt = ap origin (sound.trees_of_uses (word_in table) i lt)

  module _ (table : List (List Pair)) where
    line-same : (s : ShapeAt) → IsHeldAt table rows s → line_at table rows s ≡ shape_line (shape_by table rows s)
    line-same s h = ap (λ k. line_of k (word_in table s.word.0)) (sym (origin-of table s.id.0 h.0))

    pub lines-same : (shapes : List ShapeAt) → AreHeld table rows shapes
        → lines_at table rows shapes ≡ flat_map shape_line (shapes_by table rows shapes)
    lines-same [] h = refl
    lines-same (s ∷ shapes) h = λ i.
        line-same s (h s (Contains-here s shapes)) i
        ++ lines-same shapes (λ t m. h t (Contains-there s t shapes m)) i

    high-same : (shapes : List ShapeAt) → AreHeld table rows shapes
        → high_lines_at table rows shapes ≡ flat_map high_line (shapes_by table rows shapes)
    high-same [] h = refl
    high-same (s ∷ shapes) h = λ i.
        (32 ∷ 32 ∷ line-same s (h s (Contains-here s shapes)) i)
        ++ high-same shapes (λ t m. h t (Contains-there s t shapes m)) i

    pub rows-same : (above : List AboveOne) → AreRowsHeld table rows above
        → rows_lines_at table rows above ≡ flat_map above_lines (map (above_by table rows) above)
    rows-same [] h = refl
    rows-same (r ∷ above) h = λ i.
        (line-same r.low (h.lows r (Contains-here r above)) i ++ high-same r.high (h.highs r (Contains-here r above)) i)
        ++ rows-same above (record {
          lows = λ t m. h.lows t (Contains-there r t above m);
          highs = λ t m. h.highs t (Contains-there r t above m);
        }) i

-- ---- what stands at a place of a list is among it
pub among : {X : Type 0} (xs : List X) (i : ℕ) (x : X) → i < length xs → x ≡ slice_index_or xs i x → Contains xs x
among xs i x lt is = Contains-at xs i x (slice_get-get_or xs i x lt ∙ ap Some (sym is))
