-- The pairs of the parts so far are added.
use Rattle.std.proofs.Common.{◌⊎◌, ◌↔◌, Contains, take}
use Rattle.shape_pool.specs.declared.node.NodeId.{NodeId}
use Rattle.key_results.proofs.PairLaws.{IsPartPair}
use Rattle.key_results.proofs.images.add_pairs.Given as goal

abbrev pub invariant-loop-part : goal.invariant-loop-part
invariant-loop-part l =
    (p : NodeId × NodeId) → Contains l.pairs.items p ↔ (Contains l.initial.pairs.items p ⊎
    IsPartPair l.id l.nodes l.key l.outgrowth l.initial.pairs.items (take l.part-index l.outgrowth.parts.items) p)
