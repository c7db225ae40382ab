-- The depth at a place.
use Rattle.std.proofs.Common.{◌<◌, ◌∙◌, ap, arith, length, List}
use Rattle.shape_pool.specs.declared.held.Held.{Held}
use Rattle.shape_pool.specs.Held.{stored_depth}
use Rattle.shape_pool.proofs.HeldOfLaws.{length-held_of, depth-held_of}
use Rattle.shape_pool.proofs.held_nodes.HeldNodes.depth.Goals as goal

pub index-requires : goal.index-requires
index-requires c =
    let l = length-held_of c.self.inside.nodes.items c.self.inside.depths.items c.self.invariant in
    let n = ap length c.self.view_is in
    omega (arith, c.requires, l, n, c.self.invariant)

pub returns : goal.returns
returns c =
    let l = length-held_of c.self.inside.nodes.items c.self.inside.depths.items c.self.invariant in
    let n = ap length c.self.view_is in
    let lt : c.args.at < length c.self.inside.nodes.items = omega (arith, c.requires, l, n) in
    c.index.ensures ∙ depth-held_of c.self.inside.nodes.items c.self.inside.depths.items c.self.invariant c.args.at
    c.index.result.now lt ∙
    ap (λ (hs : List Held). stored_depth hs c.args.at) c.self.view_is
