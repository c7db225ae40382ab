-- The node at a place.
use Rattle.std.proofs.Common.{◌≡◌, ◌<◌, ◌∙◌, sym, ap, subst, arith, length, slice_get, Some, List}
use Rattle.std.specs.Option.{option_map}
use Rattle.std.proofs.lemmas.Option.{slice_get-get_or}
use Rattle.shape_pool.specs.declared.held.Held.{Held}
use Rattle.shape_pool.proofs.HeldOfLaws.{length-held_of, node-held_of}
use Rattle.shape_pool.proofs.held_nodes.HeldNodes.node.Goals as goal

pub index-requires : goal.index-requires
index-requires c =
    let l = length-held_of c.self.inside.nodes.items c.self.inside.depths.items c.self.invariant in
    let n = ap length c.self.view_is in
    omega (arith, c.requires, l, n)

pub returns : goal.returns
returns c =
    let l = length-held_of c.self.inside.nodes.items c.self.inside.depths.items c.self.invariant in
    let n = ap length c.self.view_is in
    let lt : c.args.at < length c.self.inside.nodes.items = omega (arith, c.requires, l, n) in
    let at = slice_get-get_or c.self.inside.nodes.items c.args.at c.index.result.now lt ∙
    ap Some (sym c.index.ensures) in
    subst (λ (hs : List Held). option_map (λ (h : Held). h.node) (slice_get hs c.args.at) ≡ Some c.index.result.now)
    c.self.view_is
    (node-held_of c.self.inside.nodes.items c.self.inside.depths.items c.self.invariant c.args.at c.index.result.now at)
