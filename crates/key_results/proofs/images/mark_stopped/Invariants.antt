-- What the stopped visits so far use is marked.
use Rattle.std.proofs.Common.{◌≡◌, ◌⊎◌, ◌↔◌, ℕ, length, take}
use Rattle.key_results.specs.Pairs.{IsMarked, IsUsedByStopped}
use Rattle.key_results.proofs.images.mark_stopped.Given as goal

abbrev pub invariant-loop-visit : goal.invariant-loop-visit
invariant-loop-visit l = record {
  long : length l.marks ≡ length l.initial.marks;
  marked : (i : ℕ) → IsMarked l.marks i ↔ (IsMarked l.initial.marks i ⊎
      IsUsedByStopped l.pool (take l.visit-index l.visits) i);
}
