-- The uses so far are of the kind.
use Rattle.std.proofs.Common.{◌≡◌, All, take}
use Rattle.shape_pool.specs.Rows.{kind_at}
use Rattle.shape_pool.specs.Laws.{ids_used}
use Rattle.requests.proofs.fit.are_of.Given as goal

abbrev pub invariant-loop-at : goal.invariant-loop-at
invariant-loop-at l = All (λ j. kind_at l.pool j ≡ l.kind) (take l.at (ids_used l.pool l.id.0))
