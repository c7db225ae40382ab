-- One loaded node more.
use Rattle.std.proofs.Common.{◌≡◌, ◌≢◌, ◌∙◌, sym, ap, subst, ℕ, List, Option, Some, slice_get}
use Rattle.shape_pool.specs.declared.held.Held.{Held}
use Rattle.shape_pool.specs.declared.held.Made.{Made}
use Rattle.shape_pool.specs.declared.node.NodeId.{NodeId}
use Rattle.shape_pool.specs.Calls.{IsLoaded}
use Rattle.shape_pool.specs.Nodes.{node_origin}
use Rattle.shape_pool.specs.Held.{rows_of, IsStock}
use Rattle.shape_pool.proofs.StockLaws.{by_end, loaded-more, loaded-stale}
use Rattle.shape_pool.proofs.stock.Stock.add_loaded.Goals as goal

pub invariant_of-self : goal.invariant_of-self
invariant_of-self c =
    subst (λ (ns : List NodeId). IsStock c.self.inside.held c.self.inside.made.keys (slice_get ns))
    (sym c.in_err-note.ensures.err) c.self.invariant

pub invariant_of-self-2 : goal.invariant_of-self-2
invariant_of-self-2 c =
    let held : List Held = c.self.inside.held in
    let made : List Made = c.self.inside.made.keys in
    let was : ℕ → Option NodeId = slice_get c.self.inside.loaded.items in
    let now : ℕ → Option NodeId = slice_get c.note.new.loaded.items in
    let origin : ℕ = node_origin c.args.node.node.value in
    let next : NodeId = record { 0 = c.len.result } in
    let same : node_origin c.deref.result.now ≡ origin = ap node_origin c.deref.ensures in
    let noted : now origin ≡ Some next = subst (λ (o : ℕ). now o ≡ Some next) same c.in_ok-note.ensures.noted in
    let others : (q : ℕ) (n : NodeId) → q ≢ origin → was q ≡ Some n → now q ≡ Some n =
    λ q n other e. c.in_ok-note.ensures.others q n (λ is. other (is ∙ same)) e in
    let fresh : ¬ IsLoaded (rows_of held) origin =
    subst (λ (hs : List Held). ¬ IsLoaded (rows_of hs) origin) (sym c.self.view_is) c.requires.new in
    by_end c.push.result c.push.ensures.ok c.push.ensures.err
    (λ e. subst (λ (hs : List Held). IsStock hs made now) (sym e)
    (loaded-more held made c.args.node fresh c.requires.origin was now next c.self.invariant noted c.len.ensures
    others))
    (λ e. subst (λ (hs : List Held). IsStock hs made now) (sym e)
    (loaded-stale held made origin fresh was now c.self.invariant others))
