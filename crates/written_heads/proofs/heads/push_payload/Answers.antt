use Rattle.std.proofs.Common.{ap, sym}
use Rattle.byte_sink.proofs.Joining.{as_text}
use Rattle.written_heads.specs.Words.{written_payload}
use Rattle.written_heads.proofs.heads.push_payload.Goals as goal

pub returns-in-Vertex : goal.returns-in-Vertex
returns-in-Vertex g c =
    as_text g.met.B.TakesBytes.joins _ _ _ _
    c.push_vertex.ensures
    (ap (written_payload c.args.locations.now c.args.version) (sym c.in-Vertex.is))

pub returns-in-Edge : goal.returns-in-Edge
returns-in-Edge g c =
    as_text g.met.B.TakesBytes.joins _ _ _ _
    c.push_edge.ensures
    (ap (written_payload c.args.locations.now c.args.version) (sym c.in-Edge.is))

pub returns-in-Face : goal.returns-in-Face
returns-in-Face g c =
    as_text g.met.B.TakesBytes.joins _ _ _ _
    c.push_face.ensures
    (ap (written_payload c.args.locations.now c.args.version) (sym c.in-Face.is))

pub returns-in-Nothing : goal.returns-in-Nothing
returns-in-Nothing g c =
    let joins = g.met.B.TakesBytes.joins in
    as_text joins _ _ _ _
    (joins.none _)
    (ap (written_payload c.args.locations.now c.args.version) (sym c.in-Nothing.is))
