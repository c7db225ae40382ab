-- The loaded one of an origin.
use Rattle.std.proofs.Common.{◌≡◌, ◌∙◌, sym, subst, ℕ, List, slice_get, Some}
use Rattle.std.specs.Option.{option_map}
use Rattle.shape_pool.specs.declared.held.Held.{Held}
use Rattle.shape_pool.specs.declared.node.Node.{Node}
use Rattle.shape_pool.specs.Nodes.{node_origin}
use Rattle.shape_pool.specs.Calls.{IsLoaded, IsLoadedAs}
use Rattle.shape_pool.specs.Held.{rows_of, HasAlike}
use Rattle.shape_pool.proofs.StockLaws.{alike-at, loaded-unlike, none-on, unloaded-unlike}
use Rattle.shape_pool.proofs.stock.Stock.loaded_alike.Goals as goal

pub returns-in_err-id-clause-none : goal.returns-in_err-id-clause-none
returns-in_err-id-clause-none c =
    let held : List Held = c.args.self.now in
    none-on c.from_residual.result c.from_residual.ensures
    (unloaded-unlike held c.args.node.now.node.value
    (subst (λ (n : Node). ¬ IsLoaded (rows_of held) (node_origin n)) c.deref.ensures c.in_err-id.ensures.none))

pub returns-then-alike-clause-some : goal.returns-then-alike-clause-some
returns-then-alike-clause-some c =
    let node : Node = c.args.node.now.node.value in
    let at : ℕ = c.in_ok-id.id.0 in
    subst (λ (hs : List Held). HasAlike hs node at) c.self.view_is
    (alike-at c.self.inside.held node at c.node.result.now c.node.ensures (sym c.alike.ensures ∙ c.if-alike.true))

pub returns-else-alike-clause-none : goal.returns-else-alike-clause-none
returns-else-alike-clause-none c =
    let held : List Held = c.args.self.now in
    let at : ℕ = c.in_ok-id.id.0 in
    loaded-unlike held c.args.node.now.node.value at c.node.result.now
    (subst (λ (n : Node). IsLoadedAs (rows_of held) (node_origin n) at) c.deref.ensures c.in_ok-id.ensures.some)
    (subst (λ (hs : List Held). option_map (λ (h : Held). h.node) (slice_get hs at) ≡ Some c.node.result.now)
    c.self.view_is c.node.ensures) (sym c.alike.ensures ∙ c.if-alike.false)
