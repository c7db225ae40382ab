use Rattle.std.proofs.Common.{rules}
use Rattle.byte_sink.proofs.Joining.{as_text}
use Rattle.written_layout.proofs.lines.push_number.Goals as goal

pub returns : goal.returns
returns g c = as_text g.met.B.TakesBytes.joins _ _ _ _
    c.push.ensures
    (search rules)
