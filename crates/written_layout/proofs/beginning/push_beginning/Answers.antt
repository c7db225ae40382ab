use Rattle.written_layout.proofs.TableLines.{can-locations}
use Rattle.byte_sink.proofs.Joining.{as_text}
use Rattle.written_layout.proofs.beginning.push_beginning.Goals as goal

pub push_locations-requires-clause-can : goal.push_locations-requires-clause-can
push_locations-requires-clause-can g c =
    can-locations c.args.file.now c.requires.sound c.args.locations.now.section.now c.requires.section

pub returns : goal.returns
returns g c =
    let joins = g.met.B.TakesBytes.joins in
    joins.joined _ _ _ _ _
    (joins.joined _ _ _ _ _ (as_text joins _ _ _ _
    c.push.ensures
    c.version_bytes.ensures) c.push_locations.ensures)
    c.push_tables.ensures
