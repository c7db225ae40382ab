use Rattle.written_heads.proofs.heads.push_head.Goals as goal

pub returns : goal.returns
returns g c = c.push_head_as.ensures
