-- What follows the pairs so far is added, and the place is one before which firsts are below those of the pairs that are left.
use Rattle.std.proofs.Common.{ℕ, ◌≤◌, ◌<◌, length, take, slice_index_or}
use Rattle.shape_pool.specs.declared.node.NodeId.{NodeId}
use Rattle.lists.specs.Gathering.{Adds}
use Rattle.history_merge.specs.Joined.{AreBefore, IsFollowed}
use Rattle.history_merge.proofs.joined.follow.Given as goal

abbrev pub invariant-loop-pair : goal.invariant-loop-pair
invariant-loop-pair l = record {
  added : Adds (IsFollowed (take l.pair-index l.firsts) l.seconds) l.fn.out.items l.out.items;
  within : l.at ≤ length l.seconds;
  before : (j : ℕ) (d : NodeId × NodeId) → l.pair-index ≤ j → j < length l.firsts → AreBefore l.seconds l.at (slice_index_or l.firsts j d).0.0;
}
