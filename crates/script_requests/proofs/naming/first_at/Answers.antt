-- The pairs are parted by the test.
use Rattle.std.proofs.Common.{◌<◌, arith, ltb, rules}
use Rattle.std.proofs.lemmas.Bool.{ltb-true, ltb-false}
use Rattle.std.proofs.lemmas.List.Sorted.{IsPartitionPoint-from_clause, IsPartitionedBy-ltb}
use Rattle.shape_pool.specs.declared.node.NodeId.{NodeId}
use Rattle.script_requests.proofs.PairLaws.{parts, rising}
use Rattle.script_requests.proofs.naming.first_at.Goals as goal

pub returns-clause-parts : goal.returns-clause-parts
returns-clause-parts c =
    let ps = c.args.pairs.now in
    let id = c.args.id in
    let parted =
    IsPartitionedBy-ltb (λ (p : NodeId × NodeId). p.0.0) ps id (rising ps c.requires.order) in
    let point =
    IsPartitionPoint-from_clause (λ (p : NodeId × NodeId). ltb p.0.0 id) _ _ c.partition_point.ensures.partitioned
    parted (λ a r q k. search rules) in
    parts (λ n. ltb n id) (λ n. n < id) (λ n e. ltb-true n id e)
    (λ n e h. let g = ltb-false n id e in omega (arith, g, h)) ps c.partition_point.result point
