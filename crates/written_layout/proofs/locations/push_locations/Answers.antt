use Rattle.std.proofs.Common.{◌∙◌, ◌≡◌, ◌+◌, ap, arith}
use Rattle.std.specs.Prelude.{length}
use Rattle.location_table.specs.Words.{datums_of}
use Rattle.written_locations.specs.Added.{further_of}
use Rattle.byte_sink.proofs.Joining.{as_text, in_three}
use Rattle.written_layout.specs.Layout.{datums_text}
use Rattle.written_layout.proofs.LocationLines.{few-written, section_parts}
use Rattle.written_layout.proofs.locations.push_locations.Goals as goal

pub overflow_add-datums : goal.overflow_add-datums
overflow_add-datums g c =
    let few =
    few-written c.sections_hold.ensures c.args.locations.now c.requires.numbering
    c.datums.result c.len.result (c.datums.ensures ∙ ap (λ l. length (datums_of l)) c.section-section.ensures)
    c.len.ensures.small in
    omega (arith, few)

pub returns : goal.returns
returns g c =
    let joins = g.met.B.TakesBytes.joins in
    let datums : c.datums.result ≡ length (datums_of c.args.locations.now.section.now) =
    c.datums.ensures ∙ ap (λ l. length (datums_of l)) c.section-section.ensures in
    let words = c.len.ensures.len in
    in_three joins _ _ _ _ _ _ _ _
    c.push_heading.ensures
    (as_text joins _ _ _ _
    c.push_datums.ensures
    (ap datums_text c.section-section.ensures))
    c.push_words.ensures
    (section_parts c.args.locations.now.section.now (further_of c.args.locations.now) _ (omega (arith, datums, words)))
