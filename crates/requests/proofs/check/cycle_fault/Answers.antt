-- The walk that was found is the first cycle among trees.
use Rattle.std.proofs.Common.{sym, subst, ℕ, List}
use Rattle.requests.specs.Plans.{InReadings, IsCycleBy}
use Rattle.requests.proofs.TreeWalks.{due-cycle}
use Rattle.requests.proofs.check.cycle_fault.Goals as goal

pub returns-in-Ok : goal.returns-in-Ok
returns-in-Ok c =
    let rows = c.args.pool.now in
    let t = c.args.table.now in
    let root : ℕ = c.args.reached.now.root.0 in
    subst (λ (w : List ℕ). InReadings rows t (IsCycleBy w root)) (sym c.in-Ok.ensures)
    (due-cycle rows t root c.args.reached.now.nodes.keys c.args.reached.now.graph c.requires.reached c.requires.held
    c.laws.ensures c.laws-2.ensures c.numbers_carry.ensures.reach c.numbers_carry.ensures.searches c.args.walk.now c.requires.found)
