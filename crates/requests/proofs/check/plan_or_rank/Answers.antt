-- The rank of the root, and the plan.
use Rattle.std.proofs.Common.{◌<◌, ◌∙◌, ℕ, length, arith, sym, subst}
use Rattle.std.proofs.lemmas.Grind.{get_or_default_zero}
use Rattle.graph_walks.specs.Graph.{ends_of}
use Rattle.graph_walks.specs.Walks.{itself, IsRank}
use Rattle.requests.proofs.TreeWalks.{due-rank, is-plan}
use Rattle.requests.proofs.check.plan_or_rank.Goals as goal

pub returns-then-rank-gt-MOST_RANK-clause-fault : goal.returns-then-rank-gt-MOST_RANK-clause-fault
returns-then-rank-gt-MOST_RANK-clause-fault c =
    let graph = c.args.reached.now.graph in
    let r : ℕ = c.index-rank.result.now in
    let some = c.requires.reached.gone.some in
    let within : 0 < length c.in-Ok.ranks.items = omega (arith, some, c.requires.reached.all, c.in-Ok.ensures.long) in
    let rank : IsRank (ends_of graph) 0 r =
    subst (IsRank (ends_of graph) 0) (sym (c.index-rank.ensures ∙ get_or_default_zero c.in-Ok.ranks.items 0 r within))
    (c.in-Ok.ensures.ranked 0 ((c.requires.found.reached 0).1 itself)) in
    due-rank c.args.pool.now c.args.table.now c.args.reached.now.root.0 c.args.reached.now.nodes.keys graph c.requires.reached c.requires.held
    c.laws.ensures c.laws-2.ensures c.numbers_carry.ensures.reach c.numbers_carry.ensures.searches c.cycles_are_determined.ensures
    c.args.order.now c.requires.found r rank (omega (arith, c.if-rank-gt-MOST_RANK.true))

pub returns-in-Ok-planned-clause-plan : goal.returns-in-Ok-planned-clause-plan
returns-in-Ok-planned-clause-plan c =
    let graph = c.args.reached.now.graph in
    let r : ℕ = c.index-rank.result.now in
    let some = c.requires.reached.gone.some in
    let within : 0 < length c.in-Ok.ranks.items = omega (arith, some, c.requires.reached.all, c.in-Ok.ensures.long) in
    let rank : IsRank (ends_of graph) 0 r =
    subst (IsRank (ends_of graph) 0) (sym (c.index-rank.ensures ∙ get_or_default_zero c.in-Ok.ranks.items 0 r within))
    (c.in-Ok.ensures.ranked 0 ((c.requires.found.reached 0).1 itself)) in
    is-plan c.args.pool.now c.args.table.now c.args.reached.now.root.0 c.args.reached.now.nodes.keys graph c.requires.reached c.requires.held
    c.laws.ensures c.laws-2.ensures c.numbers_carry.ensures.reach c.numbers_carry.ensures.searches c.cycles_are_determined.ensures
    c.args.order.now c.requires.found r rank c.in-Ok-planned.plan (omega (arith, c.if-rank-gt-MOST_RANK.false)) c.in-Ok-planned.ensures
