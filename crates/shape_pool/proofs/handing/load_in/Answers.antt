-- A node of an origin that isn't loaded is like none that is held, and goes last.
use Rattle.std.proofs.Common.{◌≡◌, ◌≤◌, ◌+◌, ◌∙◌, ap, arith, List, length, inr}
use Rattle.shape_pool.specs.declared.held.Held.{Held}
use Rattle.shape_pool.specs.Rows.{most_nodes}
use Rattle.shape_pool.proofs.StockLaws.{fresh-none}
use Rattle.shape_pool.proofs.handing.load_in.Goals as goal

pub returns-then-count-ge-MOST_NODES-clause-many : goal.returns-then-count-ge-MOST_NODES-clause-many
returns-then-count-ge-MOST_NODES-clause-many c =
    let count : c.len-count.result ≡ length c.args.stock.now =
    c.len-count.ensures ∙ ap (λ (hs : List Held). length hs) c.held.ensures in
    let few : length c.args.stock.now ≤ most_nodes = c.requires.few in
    let full = c.if-count-ge-MOST_NODES.true in
    λ n e.
    let told : c.len-count.result + 1 ≡ n = cc in (
      fresh-none c.args.stock.now c.args.node.node.value c.requires.new c.requires.origin,
      omega (arith, count, few, full),
      omega (arith, count, few, full, told),
    )

pub returns-in-Ok-clause-ok : goal.returns-in-Ok-clause-ok
returns-in-Ok-clause-ok c =
    let count : c.len-count.result ≡ length c.args.stock.now =
    c.len-count.ensures ∙ ap (λ (hs : List Held). length hs) c.held.ensures in
    let room = c.if-count-ge-MOST_NODES.false in
    inr (
      fresh-none c.args.stock.now c.args.node.node.value c.requires.new c.requires.origin,
      c.in-Ok.ensures.ok,
      count,
      omega (arith, count, room),
    )
