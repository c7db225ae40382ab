use Rattle.std.proofs.Common.{rules}
use Rattle.byte_sink.proofs.Joining.{as_text}
use Rattle.written_layout.proofs.locations.push_pair.Goals as goal

pub returns : goal.returns
returns g c =
    let joins = g.met.B.TakesBytes.joins in
    joins.joined _ _ _ _ _ c.push_byte.ensures
    (joins.joined _ _ _ _ _ c.push_number.ensures
    (joins.joined _ _ _ _ _ c.push_byte-2.ensures (as_text joins _ _ _ _
    c.push.ensures
    (search rules))))
