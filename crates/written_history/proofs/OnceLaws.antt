-- An order has each number once, since each tree is written once.
use Rattle.std.proofs.Common.{◌≡◌, ◌≤◌, ◌-◌, ◌∙◌, zero, suc, refl, ap, sym, arith, ℕ, List, [], ◌∷◌, map}
use Rattle.std.specs.Prelude.{length, slice_get, Some}
use Rattle.std.specs.Option.{option_map}
use Rattle.std.proofs.lemmas.Option.{slice_get-map, slice_get_within}
use Rattle.lists.specs.Distinct.{IsDistinct}
use Rattle.lists.proofs.Places.{place_of}
use Rattle.location_words.specs.declared.pair.Pair.{Pair}
use Rattle.location_words.specs.Tables.{IsTable}
use Rattle.expansion_laws.specs.Trees.{Tree, Use, a_single}
use Rattle.expansion_laws.specs.Written.{flat, number_in, IsWritten}
use Rattle.orientation.specs.declared.turn.Turn.TheVariants.{Forward}
use Rattle.shape_pool.specs.Laws.{word_in}
use Rattle.shape_pool.specs.Rows.{Row, HasPlaces, tree_at}
use Rattle.written_order.specs.Orders.{IsOrderOf}

-- what stands at one place alone comes once
once-by_places : {X : Type 0} (xs : List X)
    → ((i j : ℕ) (x : X) → slice_get xs i ≡ Some x → slice_get xs j ≡ Some x → i ≡ j) → IsDistinct xs
once-by_places [] apart = tt
once-by_places (x ∷ xs) apart = (
  (λ contains.
      let at = place_of xs x contains in
      let same = apart zero (suc at.0) x refl at.1 in absurd (omega (arith, same))),
  once-by_places xs (λ i j y is is'. let same = apart (suc i) (suc j) y is is' in omega (arith, same)),
)

-- the number with which the tree at a place is written
module _ (trees : List Tree) (once : (k : ℕ) (x : Tree) → (1 ≤ k) × (k ≤ length trees) → slice_get trees (length trees - k) ≡ Some x → number_in trees x ≡ k) where
  number-at : (i : ℕ) (x : Tree) → slice_get trees i ≡ Some x → number_in trees x ≡ length trees - i
  number-at i x is =
      let lt = slice_get_within trees i x is in
      let back : length trees - (length trees - i) ≡ i = omega (arith, lt) in
      once (length trees - i) x (omega (arith, lt), omega arith) (ap (slice_get trees) back ∙ is)

  one-place : (i j : ℕ) (x : Tree) → slice_get trees i ≡ Some x → slice_get trees j ≡ Some x → i ≡ j
  one-place i j x is is' =
      let lt = slice_get_within trees i x is in let lt' = slice_get_within trees j x is' in
      let same : length trees - i ≡ length trees - j = sym (number-at i x is) ∙ number-at j x is' in
      omega (arith, lt, lt', same)

pub order-once : (rows : List Row) → ((root : Use) → IsWritten root (flat root.tree)) → (words : List (List Pair)) (root : ℕ)
    (order : List ℕ) → IsTable words → HasPlaces rows (length words) → IsOrderOf rows root order → IsDistinct order
order-once rows written words root order table places ordered =
    let tree = tree_at (word_in words) rows in
    let own = written (a_single Forward [] (tree root)) in
    let all : map tree order ≡ flat (tree root) = ordered.trees words table places in
    let there : (i n : ℕ) → slice_get order i ≡ Some n → slice_get (flat (tree root)) i ≡ Some (tree n) =
    λ i n is. ap (λ l. slice_get l i) (sym all) ∙ slice_get-map tree order i ∙ ap (option_map tree) is in
    once-by_places order
    (λ i j n is is'. one-place (flat (tree root)) own.lists.once i j (tree n) (there i n is) (there j n is'))
