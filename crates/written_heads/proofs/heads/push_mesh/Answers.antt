use Rattle.std.proofs.Common.{ap, sym}
use Rattle.brep_tokens.specs.Written.{lines_text}
use Rattle.tshape_data.specs.Lines.{mesh_lines}
use Rattle.byte_sink.proofs.Joining.{as_text}
use Rattle.written_heads.proofs.PieceLemmas.{mesh_text}
use Rattle.written_heads.proofs.heads.push_mesh.Goals as goal

pub returns-in-None : goal.returns-in-None
returns-in-None g c =
    let joins = g.met.B.TakesBytes.joins in
    as_text joins _ _ _ _
    (joins.none _)
    (ap (λ o. lines_text (mesh_lines o)) (sym c.in-None.is))

pub returns-in-Some : goal.returns-in-Some
returns-in-Some g c =
    let joins = g.met.B.TakesBytes.joins in
    as_text joins _ _ _ _
    (joins.joined _ _ _ _ _ c.push_byte.ensures
    (joins.joined _ _ _ _ _ c.push_number.ensures c.push_byte-in-Some.ensures))
    (mesh_text c.args.mesh c.in-Some.mesh c.in-Some.is)
