-- What the uses so far name is marked.
use Rattle.std.proofs.Common.{◌≡◌, ◌⊎◌, ◌↔◌, ℕ, Contains, length, take}
use Rattle.shape_pool.specs.Laws.{ids_used}
use Rattle.key_results.specs.Pairs.{IsMarked}
use Rattle.key_results.proofs.images.mark_used.Given as goal

abbrev pub invariant-loop-at : goal.invariant-loop-at
invariant-loop-at l = record {
  long : length l.marks ≡ length l.initial.marks;
  marked : (i : ℕ) → IsMarked l.marks i ↔ (IsMarked l.initial.marks i ⊎
      Contains (take l.at (ids_used l.pool l.id.0)) i);
}
