use Rattle.std.proofs.Common.{rules}
use Rattle.byte_sink.proofs.Joining.{as_text}
use Rattle.shape_listing.proofs.lines.push_factor.Goals as goal

pub returns : goal.returns
returns g c =
    let joins = g.met.B.TakesBytes.joins in
    joins.joined _ _ _ _ _ c.push_byte.ensures
    (joins.joined _ _ _ _ _ c.push_number.ensures
    (joins.joined _ _ _ _ _ c.push_byte-2.ensures (as_text joins _ _ _ _
    c.push.ensures
    (search rules))))
