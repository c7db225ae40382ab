-- The rows of a pool by number, and their trees.
use Rattle.std.proofs.Common.{◌≡◌, ◌≤◌, ◌<◌, ◌+◌, ℕ, zero, suc, List, map, ◌++◌, ◌∷◌, [], All, length}
use Rattle.std.proofs.Common.{arith, sym, ◌∙◌, ap, subst, refl, slice_get, Some, None, inl, inr}
use Rattle.std.specs.List.{fold}
use Rattle.std.specs.Option.{option_map_or}
use Rattle.orientation.specs.declared.kind.Kind.TheVariants.{Co}
use Rattle.std.specs.Prelude.{unwrap_or}
use Rattle.std.proofs.Common.{take, drop}
use Rattle.std.proofs.lemmas.List.{length-append, append-nil, append_assoc, take-append-drop}
use Rattle.std.proofs.lemmas.List.Sums.{fold-append}
use Rattle.std.proofs.lemmas.List.Elements.{All-head, All-tail}
use Rattle.std.proofs.lemmas.Option.{slice_get_within}
use Rattle.lists.proofs.Places.{length-take, slice_get-kept, slice_get-last, slice_get-left, slice_get-push}
use Rattle.location_words.specs.declared.pair.Pair.{Pair}
use Rattle.expansion_laws.specs.Trees.{Tree, a_single, tree_of}
use Rattle.shape_pool.specs.declared.node.UseOf.{UseOf}
use Rattle.shape_pool.specs.Rows.{AllPlaced, HasPlaces, Row, a_row, kind_at, origin_at}
use Rattle.shape_pool.specs.Rows.{uses_at, use_by, tree_in, tree_over, trees_of, tree_at}

-- the row of a held number, and what a row says of its number
pub entry : (rows : List Row) (i : ℕ) → i < length rows →
    slice_get rows i ≡ Some (a_row (kind_at rows i) (origin_at rows i) (uses_at rows i))
entry [] i h = absurd (omega arith)
entry (r ∷ rows) zero h = refl
entry (r ∷ rows) (suc i) h = entry rows i (omega arith)

module _ (rows : List Row) (i : ℕ) {r : Row} (e : slice_get rows i ≡ Some r) where
  pub held-entry : i < length rows
  held-entry = slice_get_within rows i r e

  pub kind-entry : kind_at rows i ≡ r.kind
  kind-entry = ap (λ o. option_map_or (λ (r : Row). r.kind) o Co) e

  pub origin-entry : origin_at rows i ≡ r.origin
  origin-entry = ap (λ o. option_map_or (λ (r : Row). r.origin) o 0) e

  pub uses-entry : uses_at rows i ≡ r.uses
  uses-entry = ap (λ o. option_map_or (λ (r : Row). r.uses) o []) e

module _ (word : ℕ → List Pair) where
  pub trees-push : (rows : List Row) (r : Row) →
      trees_of word (rows ++ r ∷ []) ≡ trees_of word rows ++ tree_over word (trees_of word rows) r.origin r.uses ∷ []
  unfolding trees_of
  trees-push rows r =
      fold-append (λ trees (r : Row). trees ++ tree_over word trees r.origin r.uses ∷ []) [] rows (r ∷ [])

  length-fold : (trees : List Tree) (rows : List Row) →
      length (fold (λ trees (r : Row). trees ++ tree_over word trees r.origin r.uses ∷ []) trees rows) ≡
      length trees + length rows
  length-fold trees [] = omega arith
  length-fold trees (r ∷ rows) =
      let a = length-fold (trees ++ tree_over word trees r.origin r.uses ∷ []) rows in
      let b = length-append trees (tree_over word trees r.origin r.uses ∷ []) in omega (arith, a, b)

  pub length-trees : (rows : List Row) → length (trees_of word rows) ≡ length rows
  unfolding trees_of
  length-trees rows = let a = length-fold [] rows in omega (arith, a)

  -- earlier trees stay
  pub tree-kept : (rows : List Row) (r : Row) (i : ℕ) → i < length rows →
      tree_at word (rows ++ r ∷ []) i ≡ tree_at word rows i
  tree-kept rows r i h =
      ap (λ ts. tree_in word ts i) (trees-push rows r) ∙
      ap (λ o. unwrap_or o (tree_of 0 [])) (slice_get-left (trees_of word rows)
      (tree_over word (trees_of word rows) r.origin r.uses ∷ []) i (let a = length-trees rows in omega (arith, a)))

  pub tree-last : (rows : List Row) (r : Row) →
      tree_at word (rows ++ r ∷ []) (length rows) ≡ tree_of r.origin (map (use_by word (tree_at word rows)) r.uses)
  tree-last rows r =
      ap (λ ts. tree_in word ts (length rows)) (trees-push rows r) ∙
      ap
      (λ n. unwrap_or (slice_get (trees_of word rows ++ tree_over word (trees_of word rows) r.origin r.uses ∷ []) n)
      (tree_of 0 [])) (sym (length-trees rows)) ∙
      ap (λ o. unwrap_or o (tree_of 0 [])) (slice_get-last (trees_of word rows)
      (tree_over word (trees_of word rows) r.origin r.uses))

  pub uses-same : (tree tree' : ℕ → Tree) (n : ℕ) (us : List UseOf) → All (λ (u : UseOf). u.id.0 < n) us →
      ((i : ℕ) → i < n → tree' i ≡ tree i) → map (use_by word tree') us ≡ map (use_by word tree) us
  uses-same tree tree' n [] h k = refl
  uses-same tree tree' n (u ∷ us) h k =
      λ j. a_single u.turn (word u.place.0) (k u.id.0 (All-head (λ (u : UseOf). u.id.0 < n) u us h) j) ∷
      uses-same tree tree' n us (All-tail (λ (u : UseOf). u.id.0 < n) u us h) k j

-- rows given from the last to the first, for the induction
pub data FromLast : List Row → Type 0 where
  none : FromLast []
  more : {rows : List Row} (r : Row) → FromLast rows → FromLast (rows ++ r ∷ [])

from-more : (done rows : List Row) → FromLast done → FromLast (done ++ rows)
from-more done [] f = subst FromLast (sym (append-nil done)) f
from-more done (r ∷ rows) f =
    subst FromLast (append_assoc done (r ∷ []) rows) (from-more (done ++ r ∷ []) rows (more r f))

pub from_last : (rows : List Row) → FromLast rows
from_last rows = from-more [] rows none

-- each row names rows before it
abbrev pub AllBefore : List Row → Type 0
AllBefore rows = (i : ℕ) (r : Row) → slice_get rows i ≡ Some r → All (λ (u : UseOf). u.id.0 < i) r.uses

before-before : (rows : List Row) (r : Row) → AllBefore (rows ++ r ∷ []) → AllBefore rows
before-before rows r h i k e = h i k (slice_get-kept rows (r ∷ []) i k e)

-- each tree is its row's origin over the trees that the row names
tree-row-from : (word : ℕ → List Pair) (rows : List Row) → FromLast rows → AllBefore rows → (i : ℕ) (r : Row) →
    slice_get rows i ≡ Some r →
    tree_at word rows i ≡ tree_of r.origin (map (use_by word (tree_at word rows)) r.uses)
tree-row-from word rows none h i r e = absurd cc
tree-row-from word rows (more {rows = before} k f) h i r e = elim (slice_get-push before k r i e) [
  | inl a ↦ tree-kept word before k i (slice_get_within before i r a) ∙
      tree-row-from word before f (before-before before k h) i r a ∙
      ap (tree_of r.origin)
      (sym (uses-same word (tree_at word before) (tree_at word (before ++ k ∷ [])) i r.uses (h i r e)
      (λ j lt. tree-kept word before k j (let w = slice_get_within before i r a in omega (arith, lt, w)))))
  | inr a ↦ ap (tree_at word (before ++ k ∷ [])) a.0 ∙ tree-last word before k ∙
      ap (λ (q : Row). tree_of q.origin (map (use_by word (tree_at word before)) q.uses)) a.1 ∙
      ap (tree_of r.origin)
      (sym (uses-same word (tree_at word before) (tree_at word (before ++ k ∷ [])) (length before) r.uses
      (subst (λ n. All (λ (u : UseOf). u.id.0 < n) r.uses) a.0 (h i r e)) (λ j lt. tree-kept word before k j lt)))
]

pub tree-row : (word : ℕ → List Pair) (rows : List Row) → AllBefore rows → (i : ℕ) (r : Row) →
    slice_get rows i ≡ Some r →
    tree_at word rows i ≡ tree_of r.origin (map (use_by word (tree_at word rows)) r.uses)
tree-row word rows h = tree-row-from word rows (from_last rows) h

-- past the last row there is a bare node
pub tree-past : (word : ℕ → List Pair) (rows : List Row) (i : ℕ) → length rows ≤ i → tree_at word rows i ≡ tree_of 0 []
tree-past word rows i h =
    ap (λ o. unwrap_or o (tree_of 0 [])) (past (trees_of word rows) i
    (let a = length-trees word rows in omega (arith, a)))
  where
    past : (ts : List Tree) (i : ℕ) → length ts ≤ i → slice_get ts i ≡ None
    past [] i h = refl
    past (t ∷ ts) zero h = absurd (omega arith)
    past (t ∷ ts) (suc i) h = past ts i (omega arith)

-- more rows keep what earlier numbers stand for
pub tree-more : (word : ℕ → List Pair) (rows others : List Row) (i : ℕ) → i < length rows →
    tree_at word (rows ++ others) i ≡ tree_at word rows i
tree-more word rows [] i h = ap (λ rs. tree_at word rs i) (append-nil rows)
tree-more word rows (r ∷ others) i h =
    ap (λ rs. tree_at word rs i) (sym (append_assoc rows (r ∷ []) others)) ∙
    tree-more word (rows ++ r ∷ []) others i (let l = length-append rows (r ∷ []) in omega (arith, l, h)) ∙
    tree-kept word rows r i h

-- and so do the first rows alone
pub tree-taken : (word : ℕ → List Pair) (rows : List Row) (m i : ℕ) → m ≤ length rows → i < m →
    tree_at word (take m rows) i ≡ tree_at word rows i
tree-taken word rows m i h lt =
    sym (tree-more word (take m rows) (drop m rows) i (let l = length-take m rows h in omega (arith, l, lt))) ∙
    ap (λ rs. tree_at word rs i) (take-append-drop m rows)

pub kind-taken : (rows : List Row) (m i : ℕ) → m ≤ length rows → i < m → kind_at (take m rows) i ≡ kind_at rows i
kind-taken rows m i h lt =
    ap (λ o. option_map_or (λ (r : Row). r.kind) o Co)
    (sym (slice_get-left (take m rows) (drop m rows) i (let l = length-take m rows h in omega (arith, l, lt))) ∙
    ap (λ rs. slice_get rs i) (take-append-drop m rows))

-- words that agree on the numbers of the uses' words give the same trees
module _ (n : ℕ) (word word' : ℕ → List Pair) (agree : (a : ℕ) → a < n → word a ≡ word' a) where
  uses-alike : (tree tree' : ℕ → Tree) (k : ℕ) (us : List UseOf) → All (λ (u : UseOf). u.id.0 < k) us → AllPlaced n us →
      ((i : ℕ) → i < k → tree i ≡ tree' i) → map (use_by word tree) us ≡ map (use_by word' tree') us
  uses-alike tree tree' k [] h p t = refl
  uses-alike tree tree' k (u ∷ us) h p t =
      let word_of = agree u.place.0 (All-head (λ (u : UseOf). u.place.0 < n) u us p) in
      let tree_of = t u.id.0 (All-head (λ (u : UseOf). u.id.0 < k) u us h) in
      let rest = uses-alike tree tree' k us (All-tail (λ (u : UseOf). u.id.0 < k) u us h)
      (All-tail (λ (u : UseOf). u.place.0 < n) u us p) t in
      λ j. a_single u.turn (word_of j) (tree_of j) ∷ rest j

  module _ (rows : List Row) (before : AllBefore rows) (places : HasPlaces rows n) where
    alike-below : (m i : ℕ) → i < m → i < length rows → tree_at word rows i ≡ tree_at word' rows i
    alike-below zero i lt h = absurd (omega arith)
    alike-below (suc m) i lt h =
        tree-row word rows before i _ (entry rows i h) ∙
        ap (tree_of (origin_at rows i)) (uses-alike (tree_at word rows) (tree_at word' rows) i (uses_at rows i)
        (before i _ (entry rows i h)) (places i h)
        (λ j jt. alike-below m j (omega (arith, jt, lt)) (omega (arith, jt, h)))) ∙
        sym (tree-row word' rows before i _ (entry rows i h))

    pub trees-alike : (i : ℕ) → i < length rows → tree_at word rows i ≡ tree_at word' rows i
    trees-alike i h = alike-below (suc i) i (omega arith) h
