-- By lists of the same pairs.
use Rattle.std.proofs.Common.{sym, subst, List}
use Rattle.std.specs.List.Sorted.{IsStrictlySortedBy}
use Rattle.shape_pool.specs.declared.node.NodeId.{NodeId}
use Rattle.lists.specs.Gathering.{Adds}
use Rattle.step_history.specs.Numbered.{pair_cmp}
use Rattle.history_merge.specs.Joined.{IsFollowed}
use Rattle.history_merge.proofs.JoinLaws.{joined-by}
use Rattle.history_merge.proofs.joined.join.Goals as goal

pub follow-requires : goal.follow-requires
follow-requires c = record {
  firsts = subst (λ (l : List (NodeId × NodeId)). IsStrictlySortedBy pair_cmp l) (sym c.as_slice-left.ensures) c.in_ok-turned.ensures.order;
  seconds = subst (λ (l : List (NodeId × NodeId)). IsStrictlySortedBy pair_cmp l) (sym c.as_slice-right.ensures) c.in_ok-sorted.ensures.order;
}

pub returns : goal.returns
returns c =
    joined-by c.args.firsts.now c.args.seconds.now c.in_ok-turned.turned c.in_ok-sorted.sorted c.args.out.now.items c.follow.new.out.items
    c.in_ok-turned.ensures.same c.in_ok-sorted.ensures.same
    (subst (λ (l : List (NodeId × NodeId)). Adds (IsFollowed l c.in_ok-sorted.sorted) c.args.out.now.items c.follow.new.out.items) c.as_slice-left.ensures
    (subst (λ (l : List (NodeId × NodeId)). Adds (IsFollowed c.as_slice-left.result.now l) c.args.out.now.items c.follow.new.out.items) c.as_slice-right.ensures c.in_ok-follow.ensures))
