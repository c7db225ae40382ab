-- The uses so far are of unmarked nodes.
use Rattle.std.proofs.Common.{◌≡◌, drop}
use Rattle.std.specs.List.{filter}
use Rattle.shape_pool.specs.Rows.{uses_at}
use Rattle.explorer.specs.Levels.{is_marked}
use Rattle.explorer.proofs.entering.next_marked.Given as goal

abbrev pub invariant-loop-i : goal.invariant-loop-i
invariant-loop-i l =
    filter (is_marked l.marks) (drop l.from (uses_at l.pool l.id.0)) ≡
    filter (is_marked l.marks) (drop l.i (uses_at l.pool l.id.0))
