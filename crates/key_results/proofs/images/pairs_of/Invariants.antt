-- The pairs of the visits so far are added.
use Rattle.std.proofs.Common.{◌↔◌, Contains}
use Rattle.shape_pool.specs.declared.node.NodeId.{NodeId}
use Rattle.key_results.proofs.PairLaws.{IsPairBefore}
use Rattle.key_results.proofs.images.pairs_of.Given as goal

abbrev pub invariant-loop-k : goal.invariant-loop-k
invariant-loop-k l =
    (p : NodeId × NodeId) → Contains l.pairs.items p ↔ IsPairBefore l.visits l.outgrowths l.nodes l.all l.k p
