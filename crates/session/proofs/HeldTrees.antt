-- The trees of a pool are those of its numbers.
use Rattle.std.proofs.Common.{◌≡◌, ◌<◌, ◌+◌, ap, sym, subst, arith, ℕ, List, [], ◌∷◌, ◌++◌, length}
use Rattle.std.specs.Prelude.{fold, unwrap_or, Contains}
use Rattle.std.proofs.lemmas.List.{length-append}
use Rattle.std.proofs.lemmas.Option.{slice_get_within}
use Rattle.lists.proofs.Places.{at_place, place_of, Contains-at}
use Rattle.location_words.specs.declared.pair.Pair.{Pair}
use Rattle.expansion_laws.specs.Trees.{tree_of, Tree}
use Rattle.shape_pool.specs.Rows.{Row, tree_at, tree_over, trees_of}

module _ (word : ℕ → List Pair) where
  length-fold : (trees : List Tree) (rows : List Row) →
      length (fold (λ trees (r : Row). trees ++ tree_over word trees r.origin r.uses ∷ []) trees rows) ≡
      length trees + length rows
  length-fold trees [] = omega arith
  length-fold trees (r ∷ rows) =
      let a = length-fold (trees ++ tree_over word trees r.origin r.uses ∷ []) rows in
      let b = length-append trees (tree_over word trees r.origin r.uses ∷ []) in omega (arith, a, b)

  length-trees : (rows : List Row) → length (trees_of word rows) ≡ length rows
  unfolding trees_of
  length-trees rows = let a = length-fold [] rows in omega (arith, a)

  pub tree-listed : (rows : List Row) (i : ℕ) → i < length rows → Contains (trees_of word rows) (tree_at word rows i)
  tree-listed rows i lt =
      let long = length-trees rows in
      let p = at_place (trees_of word rows) i (omega (arith, lt, long)) in
      subst (Contains (trees_of word rows)) (sym (ap (λ o. unwrap_or o (tree_of 0 [])) p.1))
      (Contains-at (trees_of word rows) i p.0 p.1)

  pub listed-tree : (rows : List Row) (x : Tree) → Contains (trees_of word rows) x →
      (i : ℕ) × (i < length rows) × (tree_at word rows i ≡ x)
  listed-tree rows x m =
      let p = place_of (trees_of word rows) x m in
      let within = slice_get_within (trees_of word rows) p.0 x p.1 in
      let long = length-trees rows in
      (p.0, omega (arith, within, long), ap (λ o. unwrap_or o (tree_of 0 [])) p.1)
