use Rattle.written_heads.proofs.fields.push_decimal.Goals as goal

pub returns : goal.returns
returns g c = g.met.B.TakesBytes.joins.joined _ _ _ _ _ c.push_text.ensures c.push_byte.ensures
