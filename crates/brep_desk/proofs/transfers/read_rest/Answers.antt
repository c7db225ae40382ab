use Rattle.std.proofs.Common.{◌+◌, ◌≤◌, length, rules}
use Rattle.brep_desk.proofs.Pieces.{TakesAtMost-piece}
use Rattle.brep_desk.proofs.transfers.read_rest.Goals as goal

pub returns-then-is_err-clause-takes : goal.returns-then-is_err-clause-takes
returns-then-is_err-clause-takes g c told =
    let few : length c.pieces.bytes.items + c.in-Ok.count ≤ c.args.limit + 1 = search rules in
    TakesAtMost-piece (c.args.limit + 1) _ (c.pieces.bytes.items) _ _ c.in-Ok.count (c.pieces.invariant.left told)
    (c.in-Ok.ensures.reads.left told).here few
