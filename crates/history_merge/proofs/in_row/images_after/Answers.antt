-- What is joined is sorted.
use Rattle.history_merge.specs.Joined.{IsJoined}
use Rattle.history_merge.proofs.ChainLaws.{from_nothing}
use Rattle.history_merge.proofs.in_row.images_after.Goals as goal

pub returns : goal.returns
returns c = record {
  order = c.ascending_pairs.ensures.order;
  pairs = from_nothing (IsJoined c.args.images.now c.args.next.now) c.new-out.result.items c.join.new.out.items c.ascending_pairs.result c.new-out.ensures.items
      c.in_ok-join.ensures c.ascending_pairs.ensures.same;
}
