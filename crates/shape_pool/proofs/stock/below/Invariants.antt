-- From the place on, numbers aren't below the mark.
use Rattle.std.proofs.Common.{◌≡◌, ◌≤◌, ℕ, length, slice_get, Some}
use Rattle.shape_pool.specs.declared.held.Made.{Made}
use Rattle.shape_pool.specs.Nodes.{node_id}
use Rattle.shape_pool.proofs.stock.below.Given as goal

abbrev pub invariant-loop-left : goal.invariant-loop-left
invariant-loop-left l = (l.left ≤ length l.made) ×
    ((j : ℕ) (m : Made) → l.left ≤ j → slice_get l.made j ≡ Some m → l.mark ≤ node_id m.node.value)

abbrev pub decreases-loop-left : goal.decreases-loop-left
decreases-loop-left l = l.left
