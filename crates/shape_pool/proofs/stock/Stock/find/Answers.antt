-- The loaded one, or a made one.
use Rattle.std.proofs.Common.{◌≡◌, ◌∙◌, sym, ap, subst, ℕ, List, slice_get, slice_index_or, Some, false}
use Rattle.shape_pool.specs.declared.held.Held.{Held}
use Rattle.shape_pool.specs.declared.held.Made.{Made}
use Rattle.shape_pool.specs.declared.node.Node.{Node}
use Rattle.shape_pool.specs.Nodes.{node_eq, node_id, node_origin}
use Rattle.shape_pool.specs.Calls.{IsLoadedAs}
use Rattle.shape_pool.specs.Held.{rows_of, HasAlike, HasNone}
use Rattle.shape_pool.proofs.StockLaws.{made-found, made-missing}
use Rattle.shape_pool.proofs.stock.Stock.find.Goals as goal

pub returns-in-Some-clause-some : goal.returns-in-Some-clause-some
returns-in-Some-clause-some c = c.in-Some.ensures.some

pub returns-in-Some-get_index_of-clause-some : goal.returns-in-Some-get_index_of-clause-some
returns-in-Some-get_index_of-clause-some c =
    let node : Node = c.args.node.now.node.value in
    let made : List Made = c.self.inside.made.keys in
    let place : ℕ = c.in-Some-get_index_of.place in
    let other : Made = c.index-as_slice-place.result in
    let number : node_id c.deref.result.now ≡ node_id (slice_index_or made place other).node.value =
    ap node_id c.deref.ensures ∙ ap (λ (ms : List Made). node_id (slice_index_or ms place other).node.value)
    c.as_slice.ensures.keys in
    let found : HasAlike c.self.inside.held node (node_id (slice_index_or made place other).node.value) =
    made-found c.self.inside.held made c.self.invariant.found c.args.node.now place other
    (sym c.in-Some-get_index_of.ensures.index) in
    subst (λ (i : ℕ). HasAlike c.args.self.now node i) (sym number)
    (subst (λ (hs : List Held). HasAlike hs node (node_id (slice_index_or made place other).node.value)) c.self.view_is
    found)

pub returns-in-None-clause-none : goal.returns-in-None-clause-none
returns-in-None-clause-none c =
    let node : Node = c.args.node.now.node.value in
    let first =
    subst
    (λ (hs : List Held). (i : ℕ) (h : Held) → slice_get hs i ≡ Some h →
    IsLoadedAs (rows_of hs) (node_origin h.node.value) i → node_eq node h.node.value ≡ false) (sym c.self.view_is)
    c.in_default.ensures.none in
    subst (λ (hs : List Held). HasNone hs node) c.self.view_is
    (made-missing c.self.inside.held c.self.inside.made.keys c.self.invariant.found c.args.node.now
    (sym c.in-None.ensures.found) first)
