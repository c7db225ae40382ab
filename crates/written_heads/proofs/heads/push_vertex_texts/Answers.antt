use Rattle.std.proofs.Common.{sym}
use Rattle.byte_sink.proofs.Joining.{as_text}
use Rattle.written_heads.proofs.LineLemmas.{vertex_lines}
use Rattle.written_heads.proofs.heads.push_vertex_texts.Goals as goal

pub returns : goal.returns
returns g c =
    let joins = g.met.B.TakesBytes.joins in
    as_text joins _ _ _ _
    (joins.joined _ _ _ _ _ c.push_decimal.ensures
    (joins.joined _ _ _ _ _ c.push_decimal-2.ensures
    (joins.joined _ _ _ _ _ c.push_decimal-3.ensures c.push_decimal-4.ensures)))
    (sym (vertex_lines c.args.texts.now c.requires))
