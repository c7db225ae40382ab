-- The numbers are gone through in order, and the pairs are sorted.
use Rattle.std.proofs.Common.{◌<◌, sym, subst, arith, All, List, ℕ, length}
use Rattle.lists.specs.Gathering.{Gathers}
use Rattle.history_merge.specs.Merged.{Stays}
use Rattle.lists.proofs.Gathering.{gathers-all, gathers-none, gathers-out, gathers-step}
use Rattle.history_merge.proofs.no_step.stays_of.Goals as goal

pub stay-requires : goal.stay-requires
stay-requires c =
    subst (λ (l : List ℕ). All (λ i. i < length c.args.pool.now) l) (sym c.as_slice-id-items.ensures) c.requires c.loop-id.id-index 0 (omega (arith, c.loop-id-test.true))

pub loop-id-init : goal.loop-id-init
loop-id-init c = gathers-none (Stays c.args.pool.now) c.new-pairs.result.items c.new-pairs.ensures.items

pub loop-id-preserved : goal.loop-id-preserved
loop-id-preserved c =
    gathers-step (Stays c.args.pool.now) c.as_slice-id-items.result.now c.loop-id.id-index 0 c.loop-id.pairs.items c.stay.new.pairs.items
    (omega (arith, c.loop-id-test.true)) c.loop-id.invariant c.in_ok-stay.ensures

pub returns : goal.returns
returns c = record {
  stays = subst (λ (l : List ℕ). Gathers (Stays c.args.pool.now) l c.ascending_pairs.result) c.as_slice-id-items.ensures
      (gathers-out (Stays c.args.pool.now) c.as_slice-id-items.result.now c.loop-id.pairs.items c.ascending_pairs.result
      (gathers-all (Stays c.args.pool.now) c.as_slice-id-items.result.now c.loop-id.id-index c.loop-id.pairs.items (omega (arith, c.loop-id-test.false)) c.loop-id.invariant)
      c.ascending_pairs.ensures.same);
  order = c.ascending_pairs.ensures.order;
}
