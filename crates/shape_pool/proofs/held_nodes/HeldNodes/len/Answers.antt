-- As many as there are nodes.
use Rattle.std.proofs.Common.{ap, arith, length}
use Rattle.shape_pool.proofs.HeldOfLaws.{length-held_of}
use Rattle.shape_pool.proofs.held_nodes.HeldNodes.len.Goals as goal

pub returns : goal.returns
returns c =
    let l = length-held_of c.self.inside.nodes.items c.self.inside.depths.items c.self.invariant in
    let n = ap length c.self.view_is in
    omega (arith, c.len.ensures, l, n)
