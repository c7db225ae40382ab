-- One more use is made.
use Rattle.std.proofs.Common.{◌<◌, arith, length, slice_index_or, List}
use Rattle.shape_pool.specs.declared.node.UseOf.{UseOf}
use Rattle.shape_pool.specs.declared.held.Held.{Held}
use Rattle.shape_pool.proofs.MakingLaws.{any_use, use-made, uses-more}
use Rattle.shape_pool.proofs.making.shared_uses.Goals as goal

pub loop-u-preserved : goal.loop-u-preserved
loop-u-preserved c =
    let uses : List UseOf = c.args.uses.now in
    let held : List Held = c.args.held.now in
    let lt : c.loop-u.u-index < length uses = omega arith in
    let u : UseOf = slice_index_or uses c.loop-u.u-index any_use in
    let made = use-made held c.requires.ids u c.node.result.now c.in_ok-node.node c.node.ensures
    c.in_ok-node.ensures.cases in
    uses-more held uses c.loop-u.shared.items c.push.new.self.items _ c.loop-u.u-index any_use lt
    c.in_ok-push.ensures.items made.0 made.1 c.loop-u.invariant
