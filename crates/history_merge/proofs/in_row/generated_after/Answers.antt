-- What is joined three times is sorted.
use Rattle.history_merge.specs.Joined.{IsJoined}
use Rattle.history_merge.proofs.ChainLaws.{from_three}
use Rattle.history_merge.proofs.in_row.generated_after.Goals as goal

pub returns : goal.returns
returns c = record {
  order = c.ascending_pairs.ensures.order;
  pairs = from_three (IsJoined c.args.images.now c.args.next_generated.now) (IsJoined c.args.generated.now c.args.next_images.now)
      (IsJoined c.args.generated.now c.args.next_generated.now) c.new-out.result.items c.join.new.out.items c.join-2.new.out.items c.join-3.new.out.items c.ascending_pairs.result
      c.new-out.ensures.items c.in_ok-join.ensures c.in_ok-join-2.ensures c.in_ok-join-3.ensures c.ascending_pairs.ensures.same;
}
