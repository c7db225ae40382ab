-- One node more.
use Rattle.std.proofs.Common.{◌∙◌, ap, ◌++◌, ◌∷◌, [], List}
use Rattle.shape_pool.specs.declared.held.Held.{Held}
use Rattle.shape_pool.specs.Held.{held_of}
use Rattle.shape_pool.proofs.HeldOfLaws.{push-held_of}
use Rattle.shape_pool.proofs.held_nodes.HeldNodes.push.Goals as goal

pub returns-clause-ok : goal.returns-clause-ok
returns-clause-ok c =
    (λ j.
    held_of (c.in-Ok.ensures.items j)
    ((c.push_reserved.ensures.items ∙ ap (λ ds. ds ++ c.args.held.depth ∷ []) c.in_ok-reserve.ensures.items) j)) ∙
    push-held_of c.self.inside.nodes.items c.self.inside.depths.items c.self.invariant c.args.held.node
    c.args.held.depth ∙
    ap (λ (hs : List Held). hs ++ c.args.held ∷ []) c.self.view_is
