-- The uses so far are added.
use Rattle.std.proofs.Common.{◌≡◌, ◌++◌, take}
use Rattle.shape_pool.specs.Laws.{ids_used}
use Rattle.requests.proofs.ends.push_uses.Given as goal

abbrev pub invariant-loop-at : goal.invariant-loop-at
invariant-loop-at l = l.ends.items ≡ l.initial.ends.items ++ take l.at (ids_used l.pool l.id.0)
