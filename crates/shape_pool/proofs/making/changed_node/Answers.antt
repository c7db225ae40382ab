-- The kind and origin of the held node, over the other uses.
use Rattle.std.proofs.Common.{◌∙◌, subst, sym, List}
use Rattle.shape_pool.specs.declared.node.NodeUse.{NodeUse}
use Rattle.shape_pool.specs.Held.{AreUses}
use Rattle.shape_pool.proofs.MakingLaws.{changed-next}
use Rattle.shape_pool.proofs.making.changed_node.Goals as goal

pub returns : goal.returns
returns c =
    changed-next c.args.held.now c.args.id.0 c.node.result.now c.args.uses.now c.in_ok-own.own.value c.node.ensures
    (c.in_ok-own.ensures.id ∙ c.len.ensures) c.in_ok-own.ensures.kind c.in_ok-own.ensures.origin
    (subst (λ (us : List NodeUse). AreUses c.args.held.now c.args.uses.now us) (sym c.in_ok-own.ensures.uses)
    c.in_ok-shared.ensures)
