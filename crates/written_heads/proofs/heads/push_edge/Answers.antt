use Rattle.std.proofs.Common.{sym}
use Rattle.byte_sink.proofs.Joining.{in_three}
use Rattle.written_locations.specs.Added.{location_number}
use Rattle.written_heads.proofs.LineLemmas.{edge_text}
use Rattle.written_heads.proofs.heads.push_edge.Goals as goal

pub returns : goal.returns
returns g c =
    in_three g.met.B.TakesBytes.joins _ _ _ _ _ _ _ _
    c.push_edge_flags.ensures
    c.push_edge_reps.ensures
    c.push.ensures
    (sym (edge_text (location_number c.args.locations.now) c.args.version c.args.edge.now c.as_slice.result.now
    c.as_slice.ensures))
