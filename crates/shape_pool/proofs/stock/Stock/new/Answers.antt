-- No nodes.
use Rattle.std.proofs.Common.{subst, sym, List, [], slice_get}
use Rattle.shape_pool.specs.declared.held.Held.{Held}
use Rattle.shape_pool.specs.declared.held.Made.{Made}
use Rattle.shape_pool.specs.Held.{IsStock}
use Rattle.shape_pool.proofs.StockLaws.{IsStock-empty}
use Rattle.shape_pool.proofs.stock.Stock.new.Goals as goal

pub invariant_of-result : goal.invariant_of-result
invariant_of-result c =
    subst (λ (hs : List Held). IsStock hs c.new-2.result.keys (slice_get c.new-3.result.items)) (sym c.new.ensures)
    (subst (λ (ms : List Made). IsStock [] ms (slice_get c.new-3.result.items)) (sym c.new-2.ensures.empty)
    (IsStock-empty (slice_get c.new-3.result.items)))
