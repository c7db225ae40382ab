-- Each list is that of its part of the history, and all are those of a history file.
use Rattle.std.proofs.Common.{arith, subst, sym, length, List, ◌≡◌, ◌^◌}
use Rattle.lists.specs.Gathering.{Gathers}
use Rattle.shape_pool.specs.declared.node.NodeId.{NodeId}
use Rattle.history_text.specs.HistoryText.{ArePairs}
use Rattle.written_history.specs.Numbered.{IsChangeOf, IsOriginOf, IsPairOf}
use Rattle.written_history.proofs.NumberLaws.{origins-many, shorts}
use Rattle.written_history.proofs.SortLaws.{numbers-few}
use Rattle.written_history.proofs.told.history_in_numbers.Goals as goal

pub returns : goal.returns
returns c =
    let rows = c.args.pool.now in
    let order = c.args.order.now.numbers in
    let many : length c.in_ok-origins.origins ≡ length order = origins-many rows order _ c.in_ok-origins.ensures.are in
    let few = c.in_ok-origins.ensures.few in
    let removed-few = numbers-few (2 ^ 32) c.in_ok-removed.removed c.in_ok-removed.ensures.ascend
    c.in_ok-removed.ensures.small in record {
      origins = c.in_ok-origins.ensures.are;
      modified = subst (λ (l : List (NodeId × NodeId)). Gathers (IsChangeOf rows order) l c.in_ok-modified.modified)
          c.as_slice.ensures c.in_ok-modified.ensures.are;
      generated = subst (λ (l : List (NodeId × NodeId)). Gathers (IsPairOf rows order) l c.in_ok-generated.generated)
          c.as_slice-2.ensures c.in_ok-generated.ensures.are;
      removed = subst (λ (l : List NodeId). Gathers (IsOriginOf rows) l c.in_ok-removed.removed)
          c.as_slice-3.ensures c.in_ok-removed.ensures.are;
      ascends = record {
        origins = shorts c.in_ok-origins.origins c.in_ok-origins.ensures.small;
        written = omega (arith, few);
        modified = subst (λ n. ArePairs n c.in_ok-modified.modified) (sym many) c.in_ok-modified.ensures.pairs;
        generated = subst (λ n. ArePairs n c.in_ok-generated.generated) (sym many) c.in_ok-generated.ensures.pairs;
        removed = shorts c.in_ok-removed.removed c.in_ok-removed.ensures.small;
        ascend = c.in_ok-removed.ensures.ascend;
        short = omega (arith, removed-few);
      };
    }
