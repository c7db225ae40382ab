-- The walk turns to the pair's first number, and goes on below the second.
use Rattle.std.proofs.Common.{◌<◌, sym, subst, All, List, ℕ, length}
use Rattle.shape_pool.specs.declared.node.NodeId.{NodeId}
use Rattle.lists.specs.Gathering.{Adds}
use Rattle.step_history.specs.Gathering.{IsMadeOf, IsPicked, IsWalk}
use Rattle.lists.proofs.Gathering.{adds-nothing, refused}
use Rattle.step_history.proofs.GatherLaws.{named_by}
use Rattle.step_history.proofs.MadeLaws.{made-adds, made-walk, since-fits, since-held, walk-turned}
use Rattle.step_history.proofs.made.make.Goals as goal

pub returns-then-not-is_of_input-clause-made : goal.returns-then-not-is_of_input-clause-made
returns-then-not-is_of_input-clause-made c =
    adds-nothing (IsMadeOf c.args.pool.now c.args.input.now c.args.fresh.now c.args.pair) c.args.out.now.items
    (λ y p. refused c.is_of_input.ensures c.if-not-is_of_input.true (p.1, p.2))

pub meet_below-requires : goal.meet_below-requires
meet_below-requires c =
    let walk = walk-turned c.args.pool.now c.args.fresh.now c.args.walk.now.from c.args.pair.0 c.args.walk.now.met c.turn_to.new.walk.met c.args.out.now.items c.requires.walk c.turn_to.ensures.met in
    record { id = c.requires.second; closed = walk.closed }

pub since-requires : goal.since-requires
since-requires c =
    let walk = walk-turned c.args.pool.now c.args.fresh.now c.args.walk.now.from c.args.pair.0 c.args.walk.now.met c.turn_to.new.walk.met c.args.out.now.items c.requires.walk c.turn_to.ensures.met in
    since-fits c.args.pool.now c.args.fresh.now c.args.input.now c.args.pair c.turn_to.new.walk.met c.meet_below.new.met c.args.out.now.items c.args.out.now.items walk
    c.in_ok-meet_below.ensures c.len-before.result c.len-before.ensures

pub pick-requires : goal.pick-requires
pick-requires c =
    let walk = walk-turned c.args.pool.now c.args.fresh.now c.args.walk.now.from c.args.pair.0 c.args.walk.now.met c.turn_to.new.walk.met c.args.out.now.items c.requires.walk c.turn_to.ensures.met in
    record {
      from = c.requires.first;
      ids = subst (λ (l : List ℕ). All (λ i. i < length c.args.pool.now) l) (sym c.since.ensures)
          (since-held c.args.pool.now c.args.fresh.now c.args.input.now c.args.pair c.turn_to.new.walk.met c.meet_below.new.met c.args.out.now.items c.args.out.now.items walk
          c.in_ok-meet_below.ensures c.len-before.result c.len-before.ensures c.laws.ensures c.requires.second);
    }

pub returns : goal.returns
returns c =
    let walk = walk-turned c.args.pool.now c.args.fresh.now c.args.walk.now.from c.args.pair.0 c.args.walk.now.met c.turn_to.new.walk.met c.args.out.now.items c.requires.walk c.turn_to.ensures.met in
    let picked = subst (λ (l : List ℕ). Adds (IsPicked c.args.pool.now c.args.fresh.now c.args.pair.0 l) c.args.out.now.items c.pick.new.out.items) c.since.ensures c.in_ok-pick.ensures in
    let h = c.is_of_input.ensures.0 c.if-not-is_of_input.false in record {
      made = made-adds c.args.pool.now c.args.fresh.now c.args.input.now c.args.pair c.turn_to.new.walk.met c.meet_below.new.met c.args.out.now.items c.pick.new.out.items walk
          c.in_ok-meet_below.ensures c.len-before.result c.len-before.ensures picked h.0 h.1;
      walk = subst (λ (f : NodeId). IsWalk c.args.pool.now c.args.fresh.now f c.meet_below.new.met c.pick.new.out.items)
          (named_by c.args.pair.0 c.turn_to.new.walk.from (sym c.turn_to.ensures.from))
          (made-walk c.args.pool.now c.args.fresh.now c.args.input.now c.args.pair c.turn_to.new.walk.met c.meet_below.new.met c.args.out.now.items c.pick.new.out.items walk
          c.in_ok-meet_below.ensures c.len-before.result c.len-before.ensures picked);
    }
