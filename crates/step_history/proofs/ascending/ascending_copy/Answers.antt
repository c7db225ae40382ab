-- The copy has the pairs, and so has the sorted one.
use Rattle.std.proofs.Common.{◌≡◌, ◌∙◌, ap, subst}
use Rattle.std.specs.Prelude.{Contains, List, ◌↔◌, ◌++◌}
use Rattle.shape_pool.specs.declared.node.NodeId.{NodeId}
use Rattle.step_history.proofs.ascending.ascending_copy.Goals as goal

pub returns-clause-same : goal.returns-clause-same
returns-clause-same c =
    let e : c.extend_from_slice.new.self.items ≡ c.args.pairs.now =
    c.in_ok-extend_from_slice.ensures.items ∙ ap (λ (l : List (NodeId × NodeId)). l ++ c.args.pairs.now) c.new-copy.ensures.items in
    λ y. subst (λ (l : List (NodeId × NodeId)). Contains c.ascending_pairs.result y ↔ Contains l y) e (c.ascending_pairs.ensures.same y)
