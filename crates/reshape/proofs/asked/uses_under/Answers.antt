-- One use more.
use Rattle.std.proofs.Common.{arith}
use Rattle.lists.proofs.Places.{at_place}
use Rattle.shape_pool.specs.Rows.{uses_at}
use Rattle.reshape.proofs.AskLaws.{turned-more, turned-all}
use Rattle.reshape.proofs.asked.uses_under.Goals as goal

pub loop-i-preserved : goal.loop-i-preserved
loop-i-preserved c =
    let us = uses_at c.args.pool.now c.args.id.0 in
    let at = at_place us c.loop-i.i (omega arith) in
    turned-more c.args.turn us c.loop-i.i at.0 c.use_under.result c.loop-i.uses.items c.push.new.self.items at.1
    (c.use_under.ensures at.0 at.1) c.loop-i.invariant c.in_ok-push.ensures.items

pub returns : goal.returns
returns c =
    turned-all c.args.turn (uses_at c.args.pool.now c.args.id.0) c.loop-i.i c.loop-i.uses.items (omega arith)
    c.loop-i.invariant
