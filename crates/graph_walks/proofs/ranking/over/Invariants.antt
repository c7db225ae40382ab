-- The rank by the nodes gone through.
use Rattle.std.proofs.Common.{◌≡◌, take, slice_index_or}
use Rattle.graph_walks.specs.Walks.{rank_over}
use Rattle.graph_walks.proofs.ranking.over.Given as goal

abbrev pub invariant-loop-y : goal.invariant-loop-y
invariant-loop-y l = l.rank ≡ rank_over (λ y. slice_index_or l.ranks y 0) (take l.y-index l.ends)
