use Rattle.std.proofs.Common.{◌∙◌, ◌∷◌, [], ap, refl, sym}
use Rattle.byte_sink.proofs.Joining.{as_text}
use Rattle.written_locations.specs.Added.{location_number}
use Rattle.std.specs.Fmt.{decimal}
use Rattle.written_heads.specs.Words.{IsWritten, written_numbers}
use Rattle.written_heads.proofs.LocationLemmas.{named, named_second}
use Rattle.written_heads.proofs.PieceLemmas.{joint_text, seam_text}
use Rattle.written_heads.proofs.edges.push_columns_with_continuity.Goals as goal

pub push_located-requires-clause-written : goal.push_located-requires-clause-written
push_located-requires-clause-written g c =
    named (IsWritten c.args.locations.now) _ _ c.in-Seam.location [] c.in-Seam.is refl c.requires.named

pub push_located-requires-in-Joint-clause-written : goal.push_located-requires-in-Joint-clause-written
push_located-requires-in-Joint-clause-written g c =
    named (IsWritten c.args.locations.now) _ _ c.in-Joint.first_location (c.in-Joint.second_location ∷ []) c.in-Joint.is
    refl c.requires.named

pub push_located-requires-in-Joint-2-clause-written : goal.push_located-requires-in-Joint-2-clause-written
push_located-requires-in-Joint-2-clause-written g c =
    named_second (IsWritten c.args.locations.now) _ _ c.in-Joint.first_location c.in-Joint.second_location []
    c.in-Joint.is refl c.requires.named

pub returns-in-Seam : goal.returns-in-Seam
returns-in-Seam g c =
    let here = c.in-Seam in
    let joins = g.met.B.TakesBytes.joins in
    let number = location_number c.args.locations.now in
    let continuity = as_text joins _ _ _ _
    c.push.ensures
    c.continuity_word.ensures in
    as_text joins _ _ _ _
    (joins.joined _ _ _ _ _ c.push_entries.ensures (joins.joined _ _ _ _ _ continuity c.push_located.ensures))
    (seam_text (decimal here.first_curve2) (decimal here.second_curve2) _ (decimal here.surface)
    (decimal (number here.location))
    ∙ ap (written_numbers c.args.locations.now) (sym here.is))

pub returns-in-Joint : goal.returns-in-Joint
returns-in-Joint g c =
    let here = c.in-Joint in
    let joins = g.met.B.TakesBytes.joins in
    let number = location_number c.args.locations.now in
    let continuity = as_text joins _ _ _ _
    c.push-in-Joint.ensures
    c.continuity_word-in-Joint.ensures in
    as_text joins _ _ _ _
    (joins.joined _ _ _ _ _ c.push_byte.ensures
    (joins.joined _ _ _ _ _ continuity
    (joins.joined _ _ _ _ _ c.push_located-in-Joint.ensures c.push_located-in-Joint-2.ensures)))
    (joint_text _ (decimal here.first_surface) (decimal (number here.first_location)) (decimal here.second_surface)
    (decimal (number here.second_location))
    ∙ ap (written_numbers c.args.locations.now) (sym here.is))
