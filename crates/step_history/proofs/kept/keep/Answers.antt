-- The pair is added where its first is one of the input's.
use Rattle.std.proofs.Common.{refl}
use Rattle.step_history.specs.Gathering.{IsKept}
use Rattle.lists.proofs.Gathering.{adds-nothing, adds-one, refused}
use Rattle.step_history.proofs.kept.keep.Goals as goal

pub returns-then-not-is_of_input : goal.returns-then-not-is_of_input
returns-then-not-is_of_input c =
    adds-nothing (IsKept c.args.pool.now c.args.input.now c.args.pair) c.args.kept.now.items
    (λ y p. refused c.is_of_input.ensures c.if-not-is_of_input.true (p.1, p.2))

pub returns : goal.returns
returns c =
    let h = c.is_of_input.ensures.0 c.if-not-is_of_input.false in
    adds-one (IsKept c.args.pool.now c.args.input.now c.args.pair) c.args.kept.now.items c.push.new.self.items c.args.pair c.in_ok-push.ensures.items
    (refl, h.0, h.1) (λ y q. q.0)
