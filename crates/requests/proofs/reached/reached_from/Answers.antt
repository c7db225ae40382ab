-- One node more.
use Rattle.std.proofs.Common.{◌≡◌, ◌<◌, ◌+◌, ◌∙◌, sym, ap, subst, arith, length, All}
use Rattle.requests.specs.Readings.{ends_at}
use Rattle.requests.specs.Reached.{met_at, HasOneMore}
use Rattle.requests.proofs.HeldLaws.{ends-held}
use Rattle.requests.proofs.ReachedLaws.{few-met, one-node}
use Rattle.requests.proofs.reached.reached_from.Goals as goal

pub add_node-requires-clause-ends : goal.add_node-requires-clause-ends
add_node-requires-clause-ends c =
    let rows = c.args.pool.now in
    let keys = c.loop-next.nodes.keys in
    let within : c.loop-next.next < length keys = omega (arith, c.loop-next-test.true, c.len.ensures.len) in
    let here : c.met.result.0 < length rows =
    subst (λ i. i < length rows) (sym c.met.ensures) (c.loop-next.invariant.gone.are_met.held c.loop-next.next 0 within) in
    subst (All (λ x. x < length rows)) (sym (c.as_slice.ensures.value ∙ c.in_ok-list_ends.ensures))
    (ends-held rows c.laws.ensures c.args.table.now c.met.result.0 here c.requires.held)

pub loop-next-smaller : goal.loop-next-smaller
loop-next-smaller c =
    let few = few-met (length c.args.pool.now) c.loop-next.nodes.keys c.loop-next.invariant.gone.are_met in
    omega (arith, few, c.loop-next-test.true, c.len.ensures.len)

pub loop-next-preserved : goal.loop-next-preserved
loop-next-preserved c =
    let rows = c.args.pool.now in
    let t = c.args.table.now in
    let keys = c.loop-next.nodes.keys in
    let graph = c.loop-next.graph in
    let left : length graph < length keys =
    omega (arith, c.loop-next-test.true, c.len.ensures.len, c.loop-next.invariant.count) in
    let ends : c.as_slice.result.now ≡ ends_at rows t (met_at keys (length graph)) =
    c.as_slice.ensures.value ∙ c.in_ok-list_ends.ensures ∙ ap (ends_at rows t) (c.met.ensures ∙ ap (met_at keys) (sym c.loop-next.invariant.count)) in
    let one = one-node rows t c.args.root.0 keys graph c.add_node.new.nodes.keys c.add_node.new.graph c.loop-next.invariant.gone left
    (subst (λ l. HasOneMore (length rows) l keys graph c.add_node.new.nodes.keys c.add_node.new.graph) ends c.in_ok-add_node.ensures) in
    record { gone = one.0; count = one.1 ∙ ap (λ n. n + 1) c.loop-next.invariant.count }

pub returns-clause-reached : goal.returns-clause-reached
returns-clause-reached c =
    let few = c.loop-next.invariant.gone.few in
    record {
      gone = c.loop-next.invariant.gone;
      all = omega (arith, few, c.loop-next-test.false, c.len.ensures.len, c.loop-next.invariant.count);
    }
