use Rattle.byte_sink.proofs.Joining.{as_text}
use Rattle.written_heads.proofs.LineLemmas.{text_at}
use Rattle.written_heads.proofs.fields.push_text.Goals as goal

pub returns : goal.returns
returns g c =
    as_text g.met.B.TakesBytes.joins _ _ _ _
    c.push.ensures
    (text_at c.args.decimals.now c.args.at _ c.in-Some.ensures.some)
