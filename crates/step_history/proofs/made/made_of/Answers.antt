-- The pairs are gone through in order of their firsts.
use Rattle.std.proofs.Common.{arith}
use Rattle.step_history.specs.Gathering.{IsMadeOf}
use Rattle.lists.proofs.Gathering.{gathers-all, gathers-in, gathers-none, gathers-out, gathers-step}
use Rattle.step_history.proofs.GatherLaws.{any_pair, id_of, members-of}
use Rattle.step_history.proofs.MadeLaws.{pairs-held, walk-anew}
use Rattle.step_history.proofs.made.made_of.Goals as goal

pub make-requires : goal.make-requires
make-requires c =
    let same = members-of c.as_slice-pair-items.result.now c.in_ok-sorted.sorted c.args.replaced.now c.as_slice-pair-items.ensures c.in_ok-sorted.ensures.same in
    let h = pairs-held c.args.pool.now c.args.replaced.now c.as_slice-pair-items.result.now c.requires same c.loop-pair.pair-index any_pair (omega (arith, c.loop-pair-test.true)) in
    record { first = h.0; second = h.1; walk = c.loop-pair.invariant.walked }

pub loop-pair-init : goal.loop-pair-init
loop-pair-init c = record {
  gathered = gathers-none (IsMadeOf c.args.pool.now c.args.input.now c.args.fresh.now) c.new-out.result.items c.new-out.ensures.items;
  walked = walk-anew c.args.pool.now c.args.fresh.now (id_of 0) c.new-met.result c.new-out.result.items c.new-met.ensures;
}

pub loop-pair-preserved : goal.loop-pair-preserved
loop-pair-preserved c = record {
  gathered = gathers-step (IsMadeOf c.args.pool.now c.args.input.now c.args.fresh.now) c.as_slice-pair-items.result.now c.loop-pair.pair-index any_pair c.loop-pair.out.items c.make.new.out.items
      (omega (arith, c.loop-pair-test.true)) c.loop-pair.invariant.gathered c.in_ok-make.ensures.made;
  walked = c.in_ok-make.ensures.walk;
}

pub returns : goal.returns
returns c =
    let same = members-of c.as_slice-pair-items.result.now c.in_ok-sorted.sorted c.args.replaced.now c.as_slice-pair-items.ensures c.in_ok-sorted.ensures.same in
    record {
      made = gathers-out (IsMadeOf c.args.pool.now c.args.input.now c.args.fresh.now) c.args.replaced.now c.loop-pair.out.items c.ascending_pairs.result
          (gathers-in (IsMadeOf c.args.pool.now c.args.input.now c.args.fresh.now) c.args.replaced.now c.as_slice-pair-items.result.now c.loop-pair.out.items
          (gathers-all (IsMadeOf c.args.pool.now c.args.input.now c.args.fresh.now) c.as_slice-pair-items.result.now c.loop-pair.pair-index c.loop-pair.out.items
          (omega (arith, c.loop-pair-test.false)) c.loop-pair.invariant.gathered) same)
          c.ascending_pairs.ensures.same;
      order = c.ascending_pairs.ensures.order;
    }
