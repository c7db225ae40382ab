-- The pairs between the two places.
use Rattle.script_requests.proofs.PairLaws.{between, in-order}
use Rattle.script_requests.proofs.naming.pairs_of.Goals as goal

pub slice_bounds-result-count : goal.slice_bounds-result-count
slice_bounds-result-count c =
    in-order c.args.pairs.now c.args.id c.first_at-from.result c.first_past-to.result c.first_at-from.ensures.within
    c.first_at-from.ensures.parts c.first_past-to.ensures.parts

pub slice_bounds-result-start : goal.slice_bounds-result-start
slice_bounds-result-start c =
    in-order c.args.pairs.now c.args.id c.first_at-from.result c.first_past-to.result c.first_at-from.ensures.within
    c.first_at-from.ensures.parts c.first_past-to.ensures.parts

pub returns : goal.returns
returns c =
    let from = c.first_at-from in
    let to = c.first_past-to in
    between c.args.pairs.now c.args.id from.result to.result from.ensures.parts to.ensures.parts
    (in-order c.args.pairs.now c.args.id from.result to.result from.ensures.within from.ensures.parts to.ensures.parts)
