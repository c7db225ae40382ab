use Rattle.std.proofs.Common.{◌∙◌, ◌++◌, ◌∷◌, [], ap, sym, take_all}
use Rattle.std.specs.Prelude.{take}
use Rattle.location_table.specs.declared.entry.LocationEntry.{LocationEntry}
use Rattle.byte_sink.proofs.Joining.{as_text, in_two}
use Rattle.written_layout.proofs.LocationLines.{datum_lines, datums-more}
use Rattle.written_layout.proofs.locations.push_datums.Goals as goal

pub loop-entry-init : goal.loop-entry-init
loop-entry-init g c = g.met.B.TakesBytes.joins.none _

pub loop-entry-preserved : goal.loop-entry-preserved
loop-entry-preserved g c =
    let entries = c.as_slice-entry-items.result.now in
    let entry = c.entry-item.result in
    in_two g.met.B.TakesBytes.joins _ _ _ _ _ _
    c.loop-entry.invariant
    c.push_if_datum.ensures
    (sym (datums-more entries c.loop-entry.entry-index entry c.loop-entry-test.true
    ∙ ap (λ (e : LocationEntry). datum_lines (take c.loop-entry.entry-index entries) ++ datum_lines (e ∷ []))
    (sym c.entry-item.is)))

pub returns : goal.returns
returns g c =
    let entries = c.as_slice-entry-items.result.now in
    as_text g.met.B.TakesBytes.joins _ _ _ _
    c.loop-entry.invariant
    (ap datum_lines (take_all c.loop-entry.entry-index entries c.loop-entry-test.false
    ∙ c.as_slice-entry-items.ensures))
