-- The visits so far are weighed.
use Rattle.std.proofs.Common.{◌≡◌, ◌≤◌, ◌+◌, ℕ, List, All, map, take, []}
use Rattle.std.specs.Prelude.{min}
use Rattle.location_words.specs.declared.pair.Pair.{Pair}
use Rattle.shape_pool.specs.Rows.{tree_at}
use Rattle.key_results.specs.Derivations.{results_of, sizes_from, most_told}
use Rattle.key_results.specs.Weights.{weight}
use Rattle.key_results.proofs.weighing.weigh.Given as goal

abbrev pub invariant-loop-visit : goal.invariant-loop-visit
invariant-loop-visit l =
    ((word : ℕ → List Pair) → l.of_keys.items ≡ map weight
    (results_of word (tree_at word l.pool) l.prune (take l.visit-index l.visits))) ×
    ((word : ℕ → List Pair) →
    l.uses ≡ min (sizes_from word (tree_at word l.pool) l.prune [] (take l.visit-index l.visits)) most_told) ×
    All (λ w. w.depth ≤ 512 + l.visit-index) l.of_keys.items
