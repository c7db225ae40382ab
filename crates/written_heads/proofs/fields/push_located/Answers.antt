use Rattle.written_heads.proofs.fields.push_located.Goals as goal

pub returns : goal.returns
returns g c = g.met.B.TakesBytes.joins.joined _ _ _ _ _ c.push_entries.ensures c.push_location.ensures
