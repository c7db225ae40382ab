use Rattle.byte_sink.proofs.pieces.push_line.Goals as goal

pub returns : goal.returns
returns g c = g.met.B.TakesBytes.joins.joined _ _ _ _ _ c.push.ensures c.push_byte.ensures
