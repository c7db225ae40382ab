-- The uses so far are put under the turn.
use Rattle.std.proofs.Common.{◌≡◌, map, take}
use Rattle.shape_pool.specs.Rows.{uses_at}
use Rattle.reshape.specs.Asking.{turned_use}
use Rattle.reshape.proofs.asked.uses_under.Given as goal

abbrev pub invariant-loop-i : goal.invariant-loop-i
invariant-loop-i l = l.uses.items ≡ map (turned_use l.turn) (take l.i (uses_at l.pool l.id.0))
