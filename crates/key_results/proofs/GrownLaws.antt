-- The trees of a pool's nodes: none is held twice, so one that isn't held is one more.
use Rattle.std.proofs.Common.{◌≡◌, ◌<◌, ◌+◌, ℕ, suc, List, map, ◌++◌, ◌∷◌, [], All, length}
use Rattle.std.proofs.Common.{arith, sym, ◌∙◌, ap, subst, refl, slice_get, Some}
use Rattle.std.specs.List.{fold}
use Rattle.std.specs.Prelude.{max, unwrap_or}
use Rattle.std.proofs.lemmas.List.{length-append}
use Rattle.std.proofs.lemmas.List.Elements.{All-push, All-head, All-tail, All-weaker}
use Rattle.std.proofs.lemmas.Option.{slice_get_within}
use Rattle.lists.specs.Distinct.{IsDistinct}
use Rattle.lists.proofs.Distinct.{IsDistinct-push}
use Rattle.lists.proofs.Each.{All-from_members}
use Rattle.lists.proofs.Places.{place_of}
use Rattle.location_words.specs.declared.pair.Pair.{Pair}
use Rattle.expansion_laws.specs.Trees.{Tree, Use, uses_of, origin, uses, tree_of}
use Rattle.expansion_laws.specs.Measures.{depth, uses_depth}
use Rattle.shape_pool.specs.declared.node.UseOf.{UseOf}
use Rattle.shape_pool.specs.Rows.{Row, uses_at, use_by, tree_over, trees_of, tree_at, greatest, depth_at, depth_over}
use Rattle.shape_pool.specs.Rows.{most_nodes, AllHeld, AllPlaced, HasPlaces}
use Rattle.shape_pool.specs.Calls.{IsHeldAs}
use Rattle.shape_pool.specs.Laws.{IsSound, TellsBelow}
use Rattle.key_results.specs.Grown.{AreMoreThan}
use Rattle.key_results.proofs.WeightLaws.{list-of-uses}

module _ (word : ℕ → List Pair) where
  length-fold : (trees : List Tree) (rows : List Row) →
      length (fold (λ trees (r : Row). trees ++ tree_over word trees r.origin r.uses ∷ []) trees rows) ≡
      length trees + length rows
  length-fold trees [] = omega arith
  length-fold trees (r ∷ rows) =
      let a = length-fold (trees ++ tree_over word trees r.origin r.uses ∷ []) rows in
      let b = length-append trees (tree_over word trees r.origin r.uses ∷ []) in omega (arith, a, b)

  pub length-trees : (rows : List Row) → length (trees_of word rows) ≡ length rows
  unfolding trees_of
  length-trees rows = let a = length-fold [] rows in omega (arith, a)

-- things that stand at one place each
pub distinct-by-places : {X : Type 0} (xs : List X) →
    ((i j : ℕ) (x : X) → slice_get xs i ≡ Some x → slice_get xs j ≡ Some x → i ≡ j) → IsDistinct xs
distinct-by-places [] h = tt
distinct-by-places (x ∷ xs) h = (
  λ m. let p = place_of xs x m in let e = h 0 (suc p.0) x refl p.1 in omega (arith, e),
  distinct-by-places xs (λ i j y a b. let e = h (suc i) (suc j) y a b in omega (arith, e)),
)

-- uses that stand for the same uses of trees, where numbers and words tell trees and words apart
same-uses : (n : ℕ) (word : ℕ → List Pair) → TellsBelow n word → (tree : ℕ → Tree) (m : ℕ) (us vs : List UseOf) →
    All (λ (u : UseOf). u.id.0 < m) us → All (λ (u : UseOf). u.id.0 < m) vs → AllPlaced n us → AllPlaced n vs →
    ((a b : ℕ) → a < m → b < m → tree a ≡ tree b → a ≡ b) → map (use_by word tree) us ≡ map (use_by word tree) vs →
    us ≡ vs
same-uses n word tells tree m [] [] h k p q ih e = refl
same-uses n word tells tree m [] (v ∷ vs) h k p q ih e = cc
same-uses n word tells tree m (u ∷ us) [] h k p q ih e = cc
same-uses n word tells tree m (u ∷ us) (v ∷ vs) h k p q ih e =
    let first : use_by word tree u ≡ use_by word tree v = cc in
    let rest : map (use_by word tree) us ≡ map (use_by word tree) vs = cc in
    let id = ih u.id.0 v.id.0 (All-head (λ (u : UseOf). u.id.0 < m) u us h)
    (All-head (λ (u : UseOf). u.id.0 < m) v vs k) (ap (λ (w : Use). w.tree) first) in
    let place = tells u.place.0 v.place.0 (All-head (λ (u : UseOf). u.place.0 < n) u us p)
    (All-head (λ (u : UseOf). u.place.0 < n) v vs q) (ap (λ (w : Use). w.word) first) in
    let turn = ap (λ (w : Use). w.turn) first in
    let others = same-uses n word tells tree m us vs (All-tail (λ (u : UseOf). u.id.0 < m) u us h)
    (All-tail (λ (u : UseOf). u.id.0 < m) v vs k)
    (All-tail (λ (u : UseOf). u.place.0 < n) u us p) (All-tail (λ (u : UseOf). u.place.0 < n) v vs q) ih rest in
    λ t. record { turn = turn t; place = record { 0 = place t }; id = record { 0 = id t } } ∷ others t

module _ (rows : List Row) (sound : IsSound rows) where
  -- a tree over numbered uses is as deep as they tell
  uses-greatest : (word : ℕ → List Pair) (us : List UseOf) →
      uses_depth (uses_of (map (use_by word (tree_at word rows)) us)) ≡ greatest (depth_at rows) us
  uses-greatest word [] = refl
  uses-greatest word (u ∷ us) = λ i. max (sound.depths_of_trees.trees word u.id.0 i) (uses-greatest word us i)

  pub depth-of-over : (word : ℕ → List Pair) (o : ℕ) (us : List UseOf) →
      depth (tree_of o (map (use_by word (tree_at word rows)) us)) ≡ depth_over rows us
  depth-of-over word o us = ap suc (uses-greatest word us)

  module _ (n : ℕ) (word : ℕ → List Pair) (places : HasPlaces rows n) (tells : TellsBelow n word) where
    at-number : (i : ℕ) (x : Tree) → slice_get (trees_of word rows) i ≡ Some x → i < length rows
    at-number i x e =
        let lt = slice_get_within (trees_of word rows) i x e in let long = length-trees word rows in
        omega (arith, lt, long)

    is-tree : (i : ℕ) (x : Tree) → slice_get (trees_of word rows) i ≡ Some x → tree_at word rows i ≡ x
    is-tree i x e = ap (λ o. unwrap_or o (tree_of 0 [])) e

    trees-distinct : IsDistinct (trees_of word rows)
    trees-distinct = distinct-by-places (trees_of word rows) (λ i j x a b.
        (sound.ids_tell_trees n word places tells i j (at-number i x a) (at-number j x b)).1
        (is-tree i x a ∙ sym (is-tree j x b)))

    uses-of-tree : (i : ℕ) → i < length rows → uses (tree_at word rows i) ≡
        map (use_by word (tree_at word rows)) (uses_at rows i)
    uses-of-tree i lt =
        ap uses (sound.trees_of_uses word i lt) ∙ list-of-uses (map (use_by word (tree_at word rows)) (uses_at rows i))

    -- a number of a tree over uses is that of the node over them
    same-node : (o : ℕ) (us : List UseOf) (i : ℕ) → AllHeld rows us → AllPlaced n us → i < length rows →
        tree_at word rows i ≡ tree_of o (map (use_by word (tree_at word rows)) us) → IsHeldAs rows o us i
    same-node o us i held placed lt e =
        let earlier : All (λ (u : UseOf). u.id.0 < length rows) (uses_at rows i) =
        All-weaker (λ (u : UseOf). u.id.0 < i) (λ (u : UseOf). u.id.0 < length rows) (λ u h. omega (arith, h, lt))
        (uses_at rows i)
        (sound.uses_are_earlier i lt) in (
          lt,
          sym (ap origin (sound.trees_of_uses word i lt)) ∙ ap origin e,
          same-uses n word tells (tree_at word rows) (length rows) (uses_at rows i) us earlier held (places i lt) placed
              (λ a b la lb f. (sound.ids_tell_trees n word places tells a b la lb).1 f)
              (sym (uses-of-tree i lt) ∙ ap uses e ∙ list-of-uses (map (use_by word (tree_at word rows)) us)),
        )

    -- of a full pool's trees and one that isn't held there are too many
    pub one-too-many : (P : Tree → Type 0) (o : ℕ) (us : List UseOf) → AllHeld rows us → AllPlaced n us →
        ((i : ℕ) → IsHeldAs rows o us i → ⊥) → length rows ≡ most_nodes →
        ((i : ℕ) → i < length rows → P (tree_at word rows i)) →
        P (tree_of o (map (use_by word (tree_at word rows)) us)) → AreMoreThan most_nodes P
    one-too-many P o us held placed missing full each last =
        let x = tree_of o (map (use_by word (tree_at word rows)) us) in
        let long = length-trees word rows in
        let more = length-append (trees_of word rows) (x ∷ []) in (
          trees_of word rows ++ x ∷ [],
          IsDistinct-push (trees_of word rows) x trees-distinct
              (λ m. let p = place_of (trees_of word rows) x m in
              missing p.0 (same-node o us p.0 held placed (at-number p.0 x p.1) (is-tree p.0 x p.1))),
          All-push P (trees_of word rows) x
              (All-from_members P (trees_of word rows) (λ y m. let p = place_of (trees_of word rows) y m in
              subst P (is-tree p.0 y p.1) (each p.0 (at-number p.0 y p.1)))) last,
          omega (arith, more, long, full),
        )
