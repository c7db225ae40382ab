-- The numbers are gone through in order, and the lost ones are sorted.
use Rattle.std.proofs.Common.{sym, subst, arith, All, List, ℕ, length, ◌<◌}
use Rattle.lists.specs.Gathering.{Gathers}
use Rattle.step_history.specs.Gathering.{IsLost}
use Rattle.lists.proofs.Gathering.{gathers-all, gathers-none, gathers-out, gathers-step}
use Rattle.step_history.proofs.kept.lost_of.Goals as goal

pub lose-requires : goal.lose-requires
lose-requires c =
    subst (λ (l : List ℕ). All (λ i. i < length c.args.pool.now) l) (sym c.as_slice-id-items.ensures) c.requires c.loop-id.id-index 0 (omega (arith, c.loop-id-test.true))

pub loop-id-init : goal.loop-id-init
loop-id-init c = gathers-none (IsLost c.args.pool.now c.args.output.now c.args.firsts.now) c.new-lost.result.items c.new-lost.ensures.items

pub loop-id-preserved : goal.loop-id-preserved
loop-id-preserved c =
    gathers-step (IsLost c.args.pool.now c.args.output.now c.args.firsts.now) c.as_slice-id-items.result.now c.loop-id.id-index 0 c.loop-id.lost.items c.lose.new.lost.items
    (omega (arith, c.loop-id-test.true)) c.loop-id.invariant c.in_ok-lose.ensures

pub returns : goal.returns
returns c = record {
  lost = subst (λ (l : List ℕ). Gathers (IsLost c.args.pool.now c.args.output.now c.args.firsts.now) l c.ascending_ids.result) c.as_slice-id-items.ensures
      (gathers-out (IsLost c.args.pool.now c.args.output.now c.args.firsts.now) c.as_slice-id-items.result.now c.loop-id.lost.items c.ascending_ids.result
      (gathers-all (IsLost c.args.pool.now c.args.output.now c.args.firsts.now) c.as_slice-id-items.result.now c.loop-id.id-index c.loop-id.lost.items (omega (arith, c.loop-id-test.false)) c.loop-id.invariant)
      c.ascending_ids.ensures.same);
  order = c.ascending_ids.ensures.order;
}
