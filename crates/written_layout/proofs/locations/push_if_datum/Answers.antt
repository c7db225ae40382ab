use Rattle.std.proofs.Common.{◌∷◌, [], ap, sym}
use Rattle.location_table.specs.declared.entry.LocationEntry.{LocationEntry}
use Rattle.byte_sink.proofs.Joining.{as_text}
use Rattle.written_layout.specs.Layout.{datums_text}
use Rattle.written_layout.proofs.LocationLines.{datum_line}
use Rattle.written_layout.proofs.locations.push_if_datum.Goals as goal

pub returns-in-Datum : goal.returns-in-Datum
returns-in-Datum g c =
    as_text g.met.B.TakesBytes.joins _ _ _ _ c.push_to.ensures (datum_line c.args.entry.now _ c.in-Datum.is)

pub returns-in-Product : goal.returns-in-Product
returns-in-Product g c =
    let joins = g.met.B.TakesBytes.joins in
    as_text joins _ _ _ _ (joins.none _) (ap (λ (e : LocationEntry). datums_text (e ∷ [])) (sym c.in-Product.is))
