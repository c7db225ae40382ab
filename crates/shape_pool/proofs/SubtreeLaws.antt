-- The numbers that are reached from a root are those of its subtrees.
use Rattle.std.proofs.Common.{◌≡◌, ◌≤◌, ◌<◌, ◌⊎◌, ℕ, zero, suc, List, map, length}
use Rattle.std.proofs.Common.{arith, sym, ◌∙◌, ap, subst, Contains, inl, inr}
use Rattle.std.proofs.lemmas.List.Elements.{Contains-append_left, Contains-append_right}
use Rattle.std.proofs.lemmas.List.Elements.{Contains-append_cases, All-contains}
use Rattle.lists.proofs.Members.{Contains-cases, Contains-here, Contains-map}
use Rattle.lists.proofs.Members.{Contains-map_cases, Contains-none, Contains-there}
use Rattle.location_words.specs.declared.pair.Pair.{Pair}
use Rattle.graph_walks.specs.Walks.{Reaches, itself, along}
use Rattle.expansion_laws.specs.Trees.{Tree, Use, Uses, node, no_use, a_use, a_single, list_of, uses}
use Rattle.expansion_laws.specs.Measures.{subtrees, subtrees_below}
use Rattle.shape_pool.specs.declared.node.UseOf.{UseOf}
use Rattle.shape_pool.specs.Rows.{Row, use_by, tree_at, uses_at}
use Rattle.shape_pool.specs.Laws.{ids_used, IdsOfSubtrees}
use Rattle.shape_pool.proofs.RowLaws.{entry, tree-row, AllBefore}
use Rattle.shape_pool.proofs.IdLaws.{list_of-uses_of}

-- ---- trees
subtrees-itself : (x : Tree) → Contains (subtrees x) x
subtrees-itself (node k us) = Contains-here (node k us) (subtrees_below us)

below-use : (us : Uses) (u : Use) (y : Tree) → Contains (list_of us) u → Contains (subtrees u.tree) y →
    Contains (subtrees_below us) y
below-use no_use u y m h = absurd (Contains-none u m)
below-use (a_use t w x others) u y m h = elim (Contains-cases (a_single t w x) u (list_of others) m) [
  | inl e ↦ Contains-append_left (subtrees x) (subtrees_below others) y
      (subst (λ v. Contains (subtrees v) y) (sym (ap (λ (v : Use). v.tree) e)) h)
  | inr k ↦ Contains-append_right (subtrees x) (subtrees_below others) y (below-use others u y k h)
]

below-cases : (us : Uses) (y : Tree) → Contains (subtrees_below us) y →
    (u : Use) × Contains (list_of us) u × Contains (subtrees u.tree) y
below-cases no_use y h = absurd (Contains-none y h)
below-cases (a_use t w x others) y h = elim (Contains-append_cases (subtrees x) (subtrees_below others) y h) [
  | inl k ↦ (a_single t w x, Contains-here (a_single t w x) (list_of others), k)
  | inr k ↦ (let r = below-cases others y k in (r.0, Contains-there (a_single t w x) r.0 (list_of others) r.1, r.2))
]

subtrees-use : (x : Tree) (u : Use) (y : Tree) → Contains (uses x) u → Contains (subtrees u.tree) y →
    Contains (subtrees x) y
subtrees-use (node k us) u y m h = Contains-there (node k us) y (subtrees_below us) (below-use us u y m h)

-- a subtree is the tree itself, or one of a use's tree
subtrees-cases : (x y : Tree) → Contains (subtrees x) y →
    (x ≡ y) ⊎ ((u : Use) × Contains (uses x) u × Contains (subtrees u.tree) y)
subtrees-cases (node k us) y h = elim (Contains-cases (node k us) y (subtrees_below us) h) [
  | inl e ↦ inl e
  | inr m ↦ inr (below-cases us y m)
]

-- ---- numbers
module _ (rows : List Row) (before : AllBefore rows) where
  use-before : (i : ℕ) → i < length rows → (u : UseOf) → Contains (uses_at rows i) u → u.id.0 < i
  use-before i lt u c = All-contains (λ (u : UseOf). u.id.0 < i) (uses_at rows i) u (before i _ (entry rows i lt)) c

  id-before : (i y : ℕ) → i < length rows → Contains (ids_used rows i) y → y < i
  id-before i y lt c =
      let m = Contains-map_cases (λ (u : UseOf). u.id.0) y (uses_at rows i) c in
      let b = use-before i lt m.0 m.1 in let e = m.2 in omega (arith, b, e)

  reached-below : (root i : ℕ) → root < length rows → Reaches (ids_used rows) root i → i ≤ root
  reached-below root i lt itself = omega arith
  reached-below root i lt (along y c r) =
      let b = id-before root y lt c in
      let k = reached-below y i (omega (arith, b, lt)) r in omega (arith, b, k)

  module _ (word : ℕ → List Pair) where
    tree-uses : (i : ℕ) → i < length rows → uses (tree_at word rows i) ≡
        map (use_by word (tree_at word rows)) (uses_at rows i)
    tree-uses i lt = ap uses (tree-row word rows before i _ (entry rows i lt)) ∙
        list_of-uses_of (map (use_by word (tree_at word rows)) (uses_at rows i))

    found : (n root : ℕ) → root < n → root < length rows → (x : Tree) → Contains (subtrees (tree_at word rows root)) x →
        (i : ℕ) × Reaches (ids_used rows) root i × (tree_at word rows i ≡ x)
    found zero root a lt x c = absurd (omega arith)
    found (suc n) root a lt x c = elim (subtrees-cases (tree_at word rows root) x c) [
      | inl e ↦ (root, itself, e)
      | inr h ↦
          (let m = Contains-map_cases (use_by word (tree_at word rows)) h.0 (uses_at rows root)
          (subst (λ us. Contains us h.0) (tree-uses root lt) h.1) in
          let b = use-before root lt m.0 m.1 in
          let k = found n m.0.id.0 (omega (arith, a, b)) (omega (arith, lt, b)) x
          (subst (λ (u : Use). Contains (subtrees u.tree) x) (sym m.2) h.2) in
          (k.0, along m.0.id.0 (Contains-map (λ (u : UseOf). u.id.0) m.0 (uses_at rows root) m.1) k.1, k.2))
    ]

    stands : (root i : ℕ) → root < length rows → Reaches (ids_used rows) root i →
        Contains (subtrees (tree_at word rows root)) (tree_at word rows i)
    stands root i lt itself = subtrees-itself (tree_at word rows root)
    stands root i lt (along y c r) =
        let m = Contains-map_cases (λ (u : UseOf). u.id.0) y (uses_at rows root) c in
        let b = use-before root lt m.0 m.1 in
        subtrees-use (tree_at word rows root) (use_by word (tree_at word rows) m.0) (tree_at word rows i)
        (subst (λ us. Contains us (use_by word (tree_at word rows) m.0)) (sym (tree-uses root lt))
        (Contains-map (use_by word (tree_at word rows)) m.0 (uses_at rows root) m.1))
        (subst (λ k. Contains (subtrees (tree_at word rows k)) (tree_at word rows i)) (sym m.2)
        (stands y i (let e = m.2 in omega (arith, b, lt, e)) r))

pub ids-of-subtrees : (rows : List Row) → AllBefore rows → IdsOfSubtrees rows
ids-of-subtrees rows before = record {
  held = λ root i lt r. reached-below rows before root i lt r;
  subtree = λ word root i lt r. stands rows before word root i lt r;
  reached = λ word root x lt c. found rows before word (suc root) root (omega arith) lt x c;
}
