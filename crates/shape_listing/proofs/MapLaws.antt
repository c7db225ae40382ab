-- What a map of shapes by number stands for.
use Rattle.std.proofs.Common.{◌≡◌, ◌∙◌, ◌<◌, ◌≤◌, ◌+◌, refl, sym, ap, subst}
use Rattle.std.specs.Prelude.{ℕ, List, [], ◌∷◌, map, fold, length, Option}
use Rattle.std.proofs.lemmas.List.{length-map}
use Rattle.std.specs.List.{flat_map}
use Rattle.orientation.specs.declared.kind.Kind.{Kind}
use Rattle.location_words.specs.declared.pair.Pair.{Pair}
use Rattle.shape_pool.specs.declared.node.UseOf.{UseOf}
use Rattle.shape_pool.specs.Rows.{Row, tree_at, HasPlaces, HaveKinds}
use Rattle.shape_pool.specs.Laws.{word_in, IsSound}
use Rattle.file_loading.specs.Loading.{use_in}
use Rattle.subshape_maps.specs.declared.shape.ShapeAt.{ShapeAt}
use Rattle.subshape_maps.specs.declared.above.AboveOne.{AboveOne}
use Rattle.subshape_maps.specs.Maps.{map_of}
use Rattle.subshape_maps.specs.Above.{Above, above_by, above_of, counted, most_above, pairs_of, IsAboveMap}
use Rattle.subshape_maps.specs.Numbered.{shape_by, Grows, IsMap}
use Rattle.shape_listing.specs.Lines.{above_lines, shape_line}
use Rattle.shape_listing.specs.Texts.{above_text, map_text}
use Rattle.shape_listing.specs.ByNumber.{lines_at, rows_lines_at}
use Rattle.shape_listing.proofs.LineLaws.{lines-same, rows-same, tree-stays, word-stays}

-- ---- pairs by number
sums-same : {X Y : Type 0} (f : X → ℕ) (g : Y → ℕ) (h : X → Y) → ((x : X) → f x ≡ g (h x)) → (xs : List X) (n : ℕ)
    → fold (λ a x. a + f x) n xs ≡ fold (λ a y. a + g y) n (map h xs)
sums-same f g h same [] n = refl
sums-same f g h same (x ∷ xs) n =
    sums-same f g h same xs (n + f x) ∙ ap (λ k. fold (λ a y. a + g y) (n + k) (map h xs)) (same x)

counted-by : (table : List (List Pair)) (rows : List Row) (above : List AboveOne)
    → counted above ≡ pairs_of (map (above_by table rows) above)
counted-by table rows above =
    sums-same (λ (r : AboveOne). length r.high) (λ (a : Above). length a.high) (above_by table rows)
    (λ r. sym (length-map r.high (shape_by table rows))) above 0

module _ (rows : List Row) (sound : IsSound rows) (old new : List (List Pair)) (grows : Grows old new)
    (places : HasPlaces rows (length old)) (root : UseOf) (held : root.id.0 < length rows)
    (placed : root.place.0 < length old) where
  same-word : word_in new root.place.0 ≡ word_in old root.place.0
  same-word = word-stays old new grows root.place.0 placed

  same-tree : tree_at (word_in new) rows root.id.0 ≡ tree_at (word_in old) rows root.id.0
  same-tree = tree-stays rows sound old new grows places root.id.0 held

  pub map-lines : (asked : Option Kind) (shapes : List ShapeAt) → IsMap new rows root asked shapes
      → (kind : ℕ → Kind) → HaveKinds rows kind
      → lines_at new rows shapes ≡ map_text kind asked (use_in old rows root)
  map-lines asked shapes is kind are =
      lines-same rows sound new shapes is.held
      ∙ ap (flat_map shape_line) (is.map_is kind are)
      ∙ (λ i. flat_map shape_line (map_of kind asked (same-word i) (same-tree i)))

  module _ (low high : Kind) (above : List AboveOne) (is : IsAboveMap new rows root low high above) (kind : ℕ → Kind)
      (are : HaveKinds rows kind) where
    above-is : map (above_by new rows) above ≡ above_of kind low high (use_in old rows root).word (use_in old rows root).tree
    above-is = is.above_is kind are ∙ (λ i. above_of kind low high (same-word i) (same-tree i))

    pub above-lines : rows_lines_at new rows above ≡ above_text kind low high (use_in old rows root)
    above-lines =
        rows-same rows sound new above (record { lows = is.lows_held; highs = is.highs_held })
        ∙ ap (flat_map above_lines) above-is

    pub few-above : counted above ≤ most_above
        → pairs_of (above_of kind low high (use_in old rows root).word (use_in old rows root).tree) ≤ most_above
    few-above few = subst (λ n. n ≤ most_above) (counted-by new rows above ∙ ap pairs_of above-is) few
