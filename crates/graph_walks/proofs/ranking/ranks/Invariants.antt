-- The ranks of the nodes gone through.
use Rattle.std.proofs.Common.{◌≡◌, ◌≤◌, ℕ, take, length, All, slice_index_or}
use Rattle.std.specs.Prelude.{Contains}
use Rattle.graph_walks.specs.Walks.{IsRank}
use Rattle.graph_walks.specs.Graph.{ends_of}
use Rattle.graph_walks.proofs.ranking.ranks.Given as goal

abbrev pub invariant-loop : goal.invariant-loop
invariant-loop l = record {
  long : length l.ranks.items ≡ l.counter;
  small : All (λ (r : ℕ). r ≤ 0) l.ranks.items;
}

abbrev pub invariant-loop-x : goal.invariant-loop-x
invariant-loop-x l = record {
  long : length l.ranks.items ≡ length l.graph;
  small : All (λ (r : ℕ). r ≤ l.x-index) l.ranks.items;
  told : (y : ℕ) → Contains (take l.x-index l.order) y → IsRank (ends_of l.graph) y (slice_index_or l.ranks.items y 0);
  others : (y : ℕ) → (Contains (take l.x-index l.order) y → ⊥) → slice_index_or l.ranks.items y 0 ≡ 0;
}
