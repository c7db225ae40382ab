-- The trees of a file's records: which tree stands at which number, what its uses are, and which subtrees it has.
use Rattle.std.proofs.Common.{◌≡◌, ◌<◌, ◌≤◌, ◌+◌, ◌-◌, refl, sym, ◌∙◌, ap, subst, arith, inl, inr}
use Rattle.std.specs.Prelude.{ℕ, zero, suc, Some, List, [], ◌∷◌, map, length}
use Rattle.std.specs.Prelude.{reverse, All, Contains, slice_get, unwrap_or}
use Rattle.std.proofs.lemmas.List.{length-reverse}
use Rattle.std.proofs.lemmas.List.Elements.{All-head, All-tail, All-contains}
use Rattle.std.proofs.lemmas.Option.{same_Some}
use Rattle.lists.proofs.Places.{slice_get-reverse}
use Rattle.lists.proofs.Members.{Contains-map_cases}
use Rattle.expansion_laws.specs.Trees.{Tree, Use, uses, origin, tree_of, a_single}
use Rattle.expansion_laws.specs.Measures.{subtrees}
use Rattle.expansion_laws.specs.Expansion.{NumberedUse, tree_at, expanded, trees_from, trees_of_file}
use Rattle.expansion_laws.specs.Expansion.{tree_of_number, expansion, NamesAbove, IsNumberOf, IsFile}
use Rattle.expansion_laws.proofs.Subtrees.{list_of-uses_of, subtrees-cases}

pub length-trees_from : (first : ℕ) (records : List (List NumberedUse)) →
    length (trees_from first records) ≡ length records
length-trees_from first [] = refl
length-trees_from first (us ∷ rest) = ap suc (length-trees_from (suc first) rest)

pub length-trees_of_file : (records : List (List NumberedUse)) → length (trees_of_file records) ≡ length records
length-trees_of_file records = length-trees_from 1 (reverse records) ∙ length-reverse records

-- a number's tree stays the same with a lower number's tree in front
tree_at-more : (first : ℕ) (x : Tree) (trees : List Tree) (number : ℕ) → first < number →
    tree_at first (x ∷ trees) number ≡ tree_at (suc first) trees number
tree_at-more first x trees number h =
    let back : number - first ≡ suc (number - suc first) = omega (arith, h) in
    ap (λ i. unwrap_or (slice_get (x ∷ trees) i) (tree_of 0 [])) back

tree_at-first : (first : ℕ) (x : Tree) (trees : List Tree) → tree_at first (x ∷ trees) first ≡ x
tree_at-first first x trees =
    let none : first - first ≡ 0 = omega arith in
    ap (λ i. unwrap_or (slice_get (x ∷ trees) i) (tree_of 0 [])) none

expanded-more : (first : ℕ) (x : Tree) (trees : List Tree) (us : List NumberedUse) → All (λ u. first < u.number) us →
    map (expanded (suc first) trees) us ≡ map (expanded first (x ∷ trees)) us
expanded-more first x trees [] h = refl
expanded-more first x trees (u ∷ us) h =
    λ i.
    a_single u.turn u.word
    (sym (tree_at-more first x trees u.number (All-head (λ (u : NumberedUse). first < u.number) u us h)) i)
    ∷ expanded-more first x trees us (All-tail (λ (u : NumberedUse). first < u.number) u us h) i

-- the first record's tree, and those of the later ones
abbrev first_tree : ℕ → List NumberedUse → List (List NumberedUse) → Tree
first_tree first us rest = tree_of first (map (expanded (suc first) (trees_from (suc first) rest)) us)

names_above-at : (first : ℕ) (records : List (List NumberedUse)) → NamesAbove first records →
    (i : ℕ) (us : List NumberedUse) → slice_get records i ≡ Some us →
    All (λ u. first < u.number) us
names_above-at first [] h i us e = absurd cc
names_above-at first (vs ∷ rest) h zero us e =
    subst (λ l. All (λ (u : NumberedUse). first < u.number) l) (same_Some vs us e) (λ k d lt. (h.0 k d lt).0)
names_above-at first (vs ∷ rest) h (suc i) us e =
    λ k d lt. (let a = names_above-at (suc first) rest h.1 i us e k d lt in omega (arith, a))

-- the uses of a record's tree are those of the record, with the trees of the records that they name
uses-at : (first : ℕ) (records : List (List NumberedUse)) → NamesAbove first records → (i : ℕ) (us : List NumberedUse) →
    slice_get records i ≡ Some us →
    uses (tree_at first (trees_from first records) (first + i)) ≡ map (expanded first (trees_from first records)) us
uses-at first [] h i us e = absurd cc
uses-at first (vs ∷ rest) h zero us e =
    let trees : List Tree = trees_from (suc first) rest in
    let x : Tree = first_tree first vs rest in
    let here : first + 0 ≡ first = omega arith in
    ap (λ n. uses (tree_at first (x ∷ trees) n)) here
    ∙ ap uses (tree_at-first first x trees)
    ∙ list_of-uses_of (map (expanded (suc first) trees) vs)
    ∙ expanded-more first x trees vs (λ k d lt. (h.0 k d lt).0)
    ∙ ap (map (expanded first (x ∷ trees))) (same_Some vs us e)
uses-at first (vs ∷ rest) h (suc i) us e =
    let trees : List Tree = trees_from (suc first) rest in
    let x : Tree = first_tree first vs rest in
    let there : first + suc i ≡ suc first + i = omega arith in
    ap (λ n. uses (tree_at first (x ∷ trees) n)) there
    ∙ ap uses (tree_at-more first x trees (suc first + i) (omega arith))
    ∙ uses-at (suc first) rest h.1 i us e
    ∙ expanded-more first x trees us (names_above-at first (vs ∷ rest) h (suc i) us e)

origin-at : (first : ℕ) (records : List (List NumberedUse)) (i : ℕ) → i < length records →
    origin (tree_at first (trees_from first records) (first + i)) ≡ first + i
origin-at first [] i lt = absurd (omega (arith, lt))
origin-at first (us ∷ rest) zero lt =
    let trees : List Tree = trees_from (suc first) rest in
    let x : Tree = first_tree first us rest in
    let here : first + 0 ≡ first = omega arith in
    ap (λ n. origin (tree_at first (x ∷ trees) n)) here ∙ ap origin (tree_at-first first x trees) ∙ sym here
origin-at first (us ∷ rest) (suc i) lt =
    let trees : List Tree = trees_from (suc first) rest in
    let x : Tree = first_tree first us rest in
    let there : first + suc i ≡ suc first + i = omega arith in
    ap (λ n. origin (tree_at first (x ∷ trees) n)) there ∙
    ap origin (tree_at-more first x trees (suc first + i) (omega arith))
    ∙ origin-at (suc first) rest i (omega (arith, lt)) ∙ sym there

-- a tree that stands at its own origin among the trees of the numbers from `first` on
record StandsAtOrigin (first : ℕ) (trees : List Tree) (y : Tree) : Type 0 where
  pub from_first : first ≤ origin y
  pub before_end : origin y < first + length trees
  pub is : y ≡ tree_at first trees (origin y)

stands-more : (first : ℕ) (x : Tree) (trees : List Tree) (y : Tree) → StandsAtOrigin (suc first) trees y →
    StandsAtOrigin first (x ∷ trees) y
stands-more first x trees y s = record {
  from_first = (let a = s.from_first in omega (arith, a));
  before_end = (let a = s.before_end in omega (arith, a));
  is = s.is ∙ sym (tree_at-more first x trees (origin y) (let a = s.from_first in omega (arith, a)));
}

-- each subtree of a record's tree is the tree of the record that its origin numbers
subtrees-at : (first : ℕ) (records : List (List NumberedUse)) → NamesAbove first records → (i : ℕ) →
    i < length records →
    (y : Tree) → Contains (subtrees (tree_at first (trees_from first records) (first + i))) y →
    StandsAtOrigin first (trees_from first records) y
subtrees-at first [] h i lt y m = absurd (omega (arith, lt))
subtrees-at first (us ∷ rest) h zero lt y m =
    let trees : List Tree = trees_from (suc first) rest in
    let x : Tree = first_tree first us rest in
    let here : first + 0 ≡ first = omega arith in
    let at_first : tree_at first (x ∷ trees) (first + 0) ≡ x =
    ap (tree_at first (x ∷ trees)) here ∙ tree_at-first first x trees in
    elim (subtrees-cases x y (subst (λ z. Contains (subtrees z) y) at_first m)) [
      | inl e ↦
          (let number : origin y ≡ first = ap origin (sym e) in
          record {
            from_first = omega (arith, number);
            before_end = omega (arith, number);
            is = sym e ∙ sym (tree_at-first first x trees) ∙ ap (tree_at first (x ∷ trees)) (sym number);
          })
      | inr below ↦
          (let named = Contains-map_cases (expanded (suc first) trees) below.0 us
          (subst (λ l. Contains l below.0) (list_of-uses_of (map (expanded (suc first) trees) us)) below.1) in
          let bounds = All-contains (λ (u : NumberedUse). (first < u.number) × (u.number ≤ first + length rest)) us
          named.0 h.0 named.1 in
          let low = bounds.0 in let high = bounds.1 in
          let there : named.0.number ≡ suc first + (named.0.number - suc first) = omega (arith, low) in
          let tree : below.0.tree ≡ tree_at (suc first) trees (suc first + (named.0.number - suc first)) =
          ap (λ (u : Use). u.tree) (sym named.2) ∙ ap (tree_at (suc first) trees) there in
          stands-more first x trees y
          (subtrees-at (suc first) rest h.1 (named.0.number - suc first) (omega (arith, low, high)) y
          (subst (λ z. Contains (subtrees z) y) tree below.2)))
    ]
subtrees-at first (us ∷ rest) h (suc i) lt y m =
    let trees : List Tree = trees_from (suc first) rest in
    let x : Tree = first_tree first us rest in
    let there : first + suc i ≡ suc first + i = omega arith in
    let later : tree_at first (x ∷ trees) (first + suc i) ≡ tree_at (suc first) trees (suc first + i) =
    ap (tree_at first (x ∷ trees)) there ∙ tree_at-more first x trees (suc first + i) (omega arith) in
    stands-more first x trees y (subtrees-at (suc first) rest h.1 i (omega (arith, lt)) y
    (subst (λ z. Contains (subtrees z) y) later m))

-- ---- by the file's own numbers
module _ (records : List (List NumberedUse)) where
  pub origin-of_number : (k : ℕ) → IsNumberOf (length records) k → origin (tree_of_number records k) ≡ k
  origin-of_number k n =
      let low = n.0 in let high = n.1 in let long = length-reverse records in
      let there : 1 + (k - 1) ≡ k = omega (arith, low) in
      ap (λ j. origin (tree_of_number records j)) (sym there) ∙
      origin-at 1 (reverse records) (k - 1) (omega (arith, low, high, long)) ∙ there

  pub apart-by_number : (j k : ℕ) → IsNumberOf (length records) j → IsNumberOf (length records) k →
      tree_of_number records j ≡ tree_of_number records k → j ≡ k
  apart-by_number j k m n e = sym (origin-of_number j m) ∙ ap origin e ∙ origin-of_number k n

  module _ (names : NamesAbove 1 (reverse records)) where
    pub uses-of_number : (k : ℕ) (us : List NumberedUse) → IsNumberOf (length records) k →
        slice_get records (length records - k) ≡ Some us →
        uses (tree_of_number records k) ≡ map (expanded 1 (trees_of_file records)) us
    uses-of_number k us n e =
        let low = n.0 in let high = n.1 in
        let there : 1 + (k - 1) ≡ k = omega (arith, low) in
        let same : length records - suc (k - 1) ≡ length records - k = omega (arith, low) in
        ap (λ j. uses (tree_of_number records j)) (sym there)
        ∙ uses-at 1 (reverse records) names (k - 1) us
        (slice_get-reverse records (k - 1) (omega (arith, low, high)) ∙ ap (slice_get records) same ∙ e)

    pub subtree-of_number : (k : ℕ) → IsNumberOf (length records) k → (y : Tree) →
        Contains (subtrees (tree_of_number records k)) y →
        IsNumberOf (length records) (origin y) × (y ≡ tree_of_number records (origin y))
    subtree-of_number k n y m =
        let low = n.0 in let high = n.1 in let long = length-reverse records in
        let count = length-trees_of_file records in
        let there : k ≡ 1 + (k - 1) = omega (arith, low) in
        let s = subtrees-at 1 (reverse records) names (k - 1) (omega (arith, low, high, long)) y
        (subst (λ j. Contains (subtrees (tree_of_number records j)) y) there m) in
        let a = s.from_first in let b = s.before_end in
        ((a, omega (arith, b, count)), s.is)

-- each subtree of a file's expansion is the tree of the record that its origin numbers
pub subtree-is-record : (records : List (List NumberedUse)) (root : NumberedUse) → IsFile records root →
    (y : Tree) → Contains (subtrees (expansion records root).tree) y →
    IsNumberOf (length records) (origin y) × (y ≡ tree_of_number records (origin y))
subtree-is-record records root file y m = subtree-of_number records file.names_above root.number file.names_root y m
