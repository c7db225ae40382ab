-- The first nodes alone.
use Rattle.std.proofs.Common.{◌∙◌, ap, take, List}
use Rattle.shape_pool.specs.declared.held.Held.{Held}
use Rattle.shape_pool.specs.Held.{held_of}
use Rattle.shape_pool.proofs.HeldOfLaws.{take-held_of}
use Rattle.shape_pool.proofs.held_nodes.HeldNodes.truncate.Goals as goal

pub returns : goal.returns
returns c =
    (λ j. held_of (c.truncate.ensures.items j) (c.truncate-2.ensures.items j)) ∙
    take-held_of c.args.count c.self.inside.nodes.items c.self.inside.depths.items ∙
    ap (λ (hs : List Held). take c.args.count hs) c.self.view_is
