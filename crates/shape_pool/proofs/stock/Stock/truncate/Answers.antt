-- The first nodes alone.
use Rattle.std.proofs.Common.{◌≡◌, ◌<◌, ◌≤◌, ◌+◌, sym, subst, ℕ, List, Option, Some, length, take, slice_get}
use Rattle.shape_pool.specs.declared.held.Held.{Held}
use Rattle.shape_pool.specs.declared.held.Made.{Made}
use Rattle.shape_pool.specs.declared.node.NodeId.{NodeId}
use Rattle.shape_pool.specs.Nodes.{node_id}
use Rattle.shape_pool.specs.Held.{IsStock}
use Rattle.shape_pool.proofs.StockLaws.{IsStock-take}
use Rattle.shape_pool.proofs.stock.Stock.truncate.Goals as goal

pub invariant_of-self : goal.invariant_of-self
invariant_of-self c =
    let held : List Held = c.self.inside.held in
    let made : List Made = c.self.inside.made.keys in
    let noted : ℕ → Option NodeId = slice_get c.self.inside.loaded.items in
    let mark : ℕ = c.args.mark in
    let left : ℕ = c.below-left.result in
    let within : left ≤ length made = subst (λ (ms : List Made). left ≤ length ms) c.as_slice.ensures.keys
    c.below-left.ensures.within in
    let last =
    subst (λ (ms : List Made). (m : Made) (j : ℕ) → j + 1 ≡ left → slice_get ms j ≡ Some m →
    node_id m.node.value < mark) c.as_slice.ensures.keys c.below-left.ensures.last in
    let past =
    subst (λ (ms : List Made). (j : ℕ) (m : Made) → left ≤ j → slice_get ms j ≡ Some m → mark ≤ node_id m.node.value)
    c.as_slice.ensures.keys c.below-left.ensures.past in
    subst (λ (hs : List Held). IsStock hs c.truncate.new.self.keys noted) (sym c.truncate-2.ensures)
    (subst (λ (ms : List Made). IsStock (take mark held) ms noted) (sym c.truncate.ensures.keys)
    (IsStock-take held made noted mark left c.self.invariant within last past))
