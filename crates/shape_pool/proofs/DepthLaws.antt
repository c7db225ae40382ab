-- Depths of rows' trees.
use Rattle.std.proofs.Common.{◌≡◌, ◌≤◌, ◌<◌, ℕ, zero, suc, List, map, ◌∷◌, [], All, length, arith, sym, ◌∙◌, ap, refl}
use Rattle.std.specs.Prelude.{max, nat_lt}
use Rattle.std.proofs.lemmas.Bool.{ltb-true, ltb-false}
use Rattle.std.proofs.lemmas.List.Elements.{All-head, All-tail}
use Rattle.lists.proofs.Places.{at_place}
use Rattle.lists.proofs.Cases.{by_test}
use Rattle.location_words.specs.declared.pair.Pair.{Pair}
use Rattle.expansion_laws.specs.Trees.{Tree, uses_of}
use Rattle.expansion_laws.specs.Measures.{depth, uses_depth}
use Rattle.shape_pool.specs.declared.node.UseOf.{UseOf}
use Rattle.shape_pool.specs.Rows.{Row, use_by, tree_at, greatest, depth_at, depth_over, uses_at}
use Rattle.shape_pool.proofs.RowLaws.{entry, tree-row, tree-past, AllBefore}

-- the depth over uses is the greatest of their trees' depths
pub depth-uses : (word : ℕ → List Pair) (tree : ℕ → Tree) (us : List UseOf) →
    uses_depth (uses_of (map (use_by word tree) us)) ≡ greatest (λ i. depth (tree i)) us
depth-uses word tree [] = refl
depth-uses word tree (u ∷ us) = ap (max (depth (tree u.id.0))) (depth-uses word tree us)

pub greatest-same : (size size' : ℕ → ℕ) (n : ℕ) (us : List UseOf) → All (λ (u : UseOf). u.id.0 < n) us →
    ((i : ℕ) → i < n → size i ≡ size' i) → greatest size us ≡ greatest size' us
greatest-same size size' n [] h k = refl
greatest-same size size' n (u ∷ us) h k =
    λ j. max (k u.id.0 (All-head (λ (u : UseOf). u.id.0 < n) u us h) j)
    (greatest-same size size' n us (All-tail (λ (u : UseOf). u.id.0 < n) u us h) k j)

pub greatest-bound : (size : ℕ → ℕ) (most : ℕ) (us : List UseOf) → ((i : ℕ) → size i ≤ most) → greatest size us ≤ most
greatest-bound size most [] h = omega arith
greatest-bound size most (u ∷ us) h = let a = h u.id.0 in let b = greatest-bound size most us h in omega (arith, a, b)

-- no word changes a depth
same-depth : (word : ℕ → List Pair) (rows : List Row) → AllBefore rows → (n i : ℕ) → i < n →
    depth (tree_at word rows i) ≡ depth_at rows i
same-depth word rows h zero i lt = absurd (omega arith)
same-depth word rows h (suc n) i lt = by_test (nat_lt i (length rows))
    (λ e.
    let r = at_place rows i (ltb-true i (length rows) e) in
    ap depth (tree-row word rows h i r.0 r.1) ∙
    ap suc (depth-uses word (tree_at word rows) r.0.uses ∙
    greatest-same (λ k. depth (tree_at word rows k)) (depth_at rows) i r.0.uses (h i r.0 r.1)
    (λ k kt. same-depth word rows h n k (omega (arith, kt, lt))) ∙
    sym (depth-uses (λ _. []) (tree_at (λ _. []) rows) r.0.uses)) ∙
    sym (ap depth (tree-row (λ _. []) rows h i r.0 r.1)))
    (λ e. let past = ltb-false i (length rows) e in
    ap depth (tree-past word rows i (omega (arith, past)) ∙ sym (tree-past (λ _. []) rows i (omega (arith, past)))))

pub same-depths : (rows : List Row) → AllBefore rows → (word : ℕ → List Pair) (i : ℕ) →
    depth (tree_at word rows i) ≡ depth_at rows i
same-depths rows h word i = same-depth word rows h (suc i) i (omega arith)

pub depth-over-uses : (rows : List Row) → AllBefore rows → (i : ℕ) → i < length rows →
    depth_at rows i ≡ depth_over rows (uses_at rows i)
depth-over-uses rows h i lt = ap depth (tree-row (λ _. []) rows h i _ (entry rows i lt)) ∙
    ap suc (depth-uses (λ _. []) (tree_at (λ _. []) rows) (uses_at rows i))
