-- A held number's origin.
use Rattle.std.proofs.Common.{subst, ◌↔◌, ◌≡◌, true, nat_eq, List}
use Rattle.shape_pool.specs.declared.held.Held.{Held}
use Rattle.shape_pool.specs.Nodes.{node_origin}
use Rattle.shape_pool.specs.Calls.{IsOf}
use Rattle.shape_pool.specs.Held.{rows_of}
use Rattle.shape_pool.proofs.StockLaws.{of-node}
use Rattle.shape_pool.proofs.stock.Stock.is_of.Goals as goal

pub returns : goal.returns
returns c =
    subst (λ (hs : List Held). (nat_eq (node_origin c.deref.result.now) c.args.origin ≡ true) ↔
    IsOf (rows_of hs) c.args.origin c.args.id.0) c.self.view_is
    (of-node c.self.inside.held c.args.origin c.args.id.0 c.node.result.now c.node.ensures c.deref.result.now
    c.deref.ensures)
