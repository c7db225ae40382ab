use Rattle.byte_sink.proofs.Joining.{as_text}
use Rattle.written_heads.proofs.LineLemmas.{range_text}
use Rattle.written_heads.proofs.edges.push_range.Goals as goal

pub returns : goal.returns
returns g c =
    let joins = g.met.B.TakesBytes.joins in
    as_text joins _ _ _ _
    (joins.joined _ _ _ _ _ c.push_byte.ensures
    (joins.joined _ _ _ _ _ c.push_decimal.ensures c.push_decimal-2.ensures))
    (range_text c.args.texts.now c.requires)
