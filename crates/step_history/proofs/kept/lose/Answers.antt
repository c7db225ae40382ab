-- The number is added where it is lost.
use Rattle.std.proofs.Common.{refl}
use Rattle.step_history.specs.Gathering.{IsLost}
use Rattle.lists.proofs.Gathering.{adds-nothing, adds-one, refused}
use Rattle.step_history.proofs.GatherLaws.{named_by}
use Rattle.step_history.proofs.kept.lose.Goals as goal

pub returns-then-not-is_lost : goal.returns-then-not-is_lost
returns-then-not-is_lost c =
    adds-nothing (IsLost c.args.pool.now c.args.output.now c.args.firsts.now c.args.id) c.args.lost.now.items
    (λ y p. refused c.is_lost.ensures c.if-not-is_lost.true p.1)

pub returns : goal.returns
returns c =
    let h = c.is_lost.ensures.0 c.if-not-is_lost.false in
    adds-one (IsLost c.args.pool.now c.args.output.now c.args.firsts.now c.args.id) c.args.lost.now.items c.push.new.self.items (record { 0 = c.args.id }) c.in_ok-push.ensures.items
    (refl, h) (λ y q. named_by (record { 0 = c.args.id }) y q.0)
