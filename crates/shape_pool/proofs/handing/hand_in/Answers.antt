-- A node that is held is found at the number of the one that it is like.
use Rattle.std.proofs.Common.{subst, refl, inl}
use Rattle.shape_pool.specs.declared.node.Node.{Node}
use Rattle.shape_pool.specs.Held.{HasAlike}
use Rattle.shape_pool.proofs.handing.hand_in.Goals as goal

pub returns-in-Some-clause-ok : goal.returns-in-Some-clause-ok
returns-in-Some-clause-ok c =
    inl (
      refl,
      subst (λ (n : Node). HasAlike c.args.stock.now n c.in-Some.id.0) c.in-Ok.ensures.cases
          c.in-Some.ensures.some,
    )
