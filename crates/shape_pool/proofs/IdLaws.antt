-- Numbers are equal exactly where their trees are.
use Rattle.std.proofs.Common.{◌≡◌, ◌<◌, refl, ℕ, zero, suc, List, ap, sym, ◌∙◌}
use Rattle.std.proofs.Common.{[], ◌∷◌, map, length, All, slice_get, Some, arith}
use Rattle.std.specs.Prelude.{unwrap_or}
use Rattle.std.proofs.lemmas.List.Elements.{All-head, All-tail}
use Rattle.lists.proofs.Places.{at_place}
use Rattle.location_words.specs.declared.pair.Pair.{Pair}
use Rattle.expansion_laws.specs.Trees.{Tree, Use, list_of, uses_of, origin, uses}
use Rattle.shape_pool.specs.declared.node.UseOf.{UseOf}
use Rattle.location_words.specs.Tables.{IsTable}
use Rattle.shape_pool.specs.Rows.{Row, use_by, tree_at, uses_at, HasPlaces}
use Rattle.shape_pool.specs.Laws.{IdsTellTrees, IdsTellTreesBy, TellsBelow, word_in}
use Rattle.shape_pool.specs.Held.{IsRows}
use Rattle.shape_pool.proofs.RowLaws.{entry, tree-row, trees-alike}

pub list_of-uses_of : (us : List Use) → list_of (uses_of us) ≡ us
list_of-uses_of [] = refl
list_of-uses_of (u ∷ us) = ap (λ rest. u ∷ rest) (list_of-uses_of us)

module _ (n : ℕ) (word : ℕ → List Pair) (tells : TellsBelow n word) (tree : ℕ → Tree) where
  same_uses : (i j : ℕ) (us vs : List UseOf) → All (λ (u : UseOf). u.id.0 < i) us → All (λ (u : UseOf). u.id.0 < j) vs →
      All (λ (u : UseOf). u.place.0 < n) us → All (λ (u : UseOf). u.place.0 < n) vs →
      ((a b : ℕ) → a < i → b < j → tree a ≡ tree b → a ≡ b) → map (use_by word tree) us ≡ map (use_by word tree) vs →
      us ≡ vs
  same_uses i j [] [] h k p q ih e = refl
  same_uses i j [] (v ∷ vs) h k p q ih e = cc
  same_uses i j (u ∷ us) [] h k p q ih e = cc
  same_uses i j (u ∷ us) (v ∷ vs) h k p q ih e =
      let first : use_by word tree u ≡ use_by word tree v = cc in
      let rest : map (use_by word tree) us ≡ map (use_by word tree) vs = cc in
      let id = ih u.id.0 v.id.0 (All-head (λ (u : UseOf). u.id.0 < i) u us h)
      (All-head (λ (u : UseOf). u.id.0 < j) v vs k) (ap (λ (w : Use). w.tree) first) in
      let place = tells u.place.0 v.place.0 (All-head (λ (u : UseOf). u.place.0 < n) u us p)
      (All-head (λ (u : UseOf). u.place.0 < n) v vs q) (ap (λ (w : Use). w.word) first) in
      let turn = ap (λ (w : Use). w.turn) first in
      let others = same_uses i j us vs (All-tail (λ (u : UseOf). u.id.0 < i) u us h)
      (All-tail (λ (u : UseOf). u.id.0 < j) v vs k)
      (All-tail (λ (u : UseOf). u.place.0 < n) u us p) (All-tail (λ (u : UseOf). u.place.0 < n) v vs q) ih rest in
      λ t. record { turn = turn t; place = record { 0 = place t }; id = record { 0 = id t } } ∷ others t

module _ (rows : List Row) (p : IsRows rows) (n : ℕ) (word : ℕ → List Pair) (places : HasPlaces rows n)
    (tells : TellsBelow n word) where
  tell : (m i j : ℕ) → i < m → i < length rows → j < length rows → tree_at word rows i ≡ tree_at word rows j → i ≡ j
  tell zero i j h a b e = absurd (omega arith)
  tell (suc m) i j h a b e =
      let r = entry rows i a in
      let q = entry rows j b in
      let trees = sym (tree-row word rows p.before i _ r) ∙ e ∙ tree-row word rows p.before j _ q in
      let lists = sym (list_of-uses_of (map (use_by word (tree_at word rows)) (uses_at rows i))) ∙ ap uses trees ∙
      list_of-uses_of (map (use_by word (tree_at word rows)) (uses_at rows j)) in
      let same = same_uses n word tells (tree_at word rows) i j (uses_at rows i) (uses_at rows j) (p.before i _ r)
      (p.before j _ q) (places i a) (places j b)
      (λ u v lt lv f. tell m u v (omega (arith, lt, h)) (omega (arith, lt, a)) (omega (arith, lv, b)) f) lists in
      p.distinct i j _ _ r q (ap origin trees) same

pub ids-tell-trees : (rows : List Row) → IsRows rows → IdsTellTrees rows
ids-tell-trees rows p n word places tells i j a b =
    (ap (tree_at word rows), tell rows p n word places tells (suc i) i j (omega arith) a b)

-- a table that has grown reads as before
pub tables-alike : (rows : List Row) → IsRows rows → (table table' : List (List Pair)) → HasPlaces rows (length table) →
    ((a : ℕ) (w : List Pair) → slice_get table a ≡ Some w → slice_get table' a ≡ Some w) →
    (i : ℕ) → i < length rows → tree_at (word_in table) rows i ≡ tree_at (word_in table') rows i
tables-alike rows p table table' places kept = trees-alike (length table) (word_in table) (word_in table')
    (λ a lt. let w = at_place table a lt in ap (λ o. unwrap_or o []) (w.1 ∙ sym (kept a w.0 w.1))) rows p.before places

-- a table numbers each word once
table-tells : (table : List (List Pair)) → IsTable table → TellsBelow (length table) (word_in table)
table-tells table t a b la lb e =
    let v = at_place table a la in
    let w = at_place table b lb in
    let same : v.0 ≡ w.0 = sym (ap (λ o. unwrap_or o []) v.1) ∙ e ∙ ap (λ o. unwrap_or o []) w.1 in
    t.distinct a b v.0 v.1 (w.1 ∙ ap Some (sym same))

pub ids-tell-trees-by : (rows : List Row) → IsRows rows → IdsTellTreesBy rows
ids-tell-trees-by rows p table t places =
    ids-tell-trees rows p (length table) (word_in table) places (table-tells table t)
