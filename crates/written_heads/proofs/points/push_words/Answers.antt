use Rattle.std.proofs.Common.{◌∙◌, ◌++◌, ◌∷◌, [], refl, sym}
use Rattle.std.specs.Prelude.{slice_index_or}
use Rattle.std.proofs.lemmas.List.{append_assoc}
use Rattle.byte_sink.proofs.Joining.{in_two}
use Rattle.written_locations.specs.Added.{location_number}
use Rattle.written_heads.specs.Words.{IsWritten, located_text}
use Rattle.written_heads.proofs.LineLemmas.{on_curve, on_curve2, on_surface}
use Rattle.written_heads.proofs.LocationLemmas.{named_point}
use Rattle.written_heads.proofs.points.push_words.Goals as goal

pub push_located-requires-clause-written : goal.push_located-requires-clause-written
push_located-requires-clause-written g c =
    named_point (IsWritten c.args.locations.now) _ _ c.in-OnCurve.location [] c.in-OnCurve.is refl
    c.requires.writable.locations

pub push_located-requires-in-OnCurve2-clause-written : goal.push_located-requires-in-OnCurve2-clause-written
push_located-requires-in-OnCurve2-clause-written g c =
    named_point (IsWritten c.args.locations.now) _ _ c.in-OnCurve2.location [] c.in-OnCurve2.is refl
    c.requires.writable.locations

pub push_located-requires-in-OnSurface-clause-written : goal.push_located-requires-in-OnSurface-clause-written
push_located-requires-in-OnSurface-clause-written g c =
    named_point (IsWritten c.args.locations.now) _ _ c.in-OnSurface.location [] c.in-OnSurface.is refl
    c.requires.writable.locations

pub returns-in-OnCurve : goal.returns-in-OnCurve
returns-in-OnCurve g c =
    let here = c.in-OnCurve in
    in_two g.met.B.TakesBytes.joins _ _ _ _ _ _
    c.push_form.ensures
    c.push_located.ensures
    (append_assoc (slice_index_or here.texts 0 []) (32 ∷ 49 ∷ [])
    (located_text c.args.locations.now (here.curve ∷ []) here.location)
    ∙ sym (on_curve (location_number c.args.locations.now) c.args.point.now here.texts here.curve here.location here.is
    c.requires.writable.texts))

pub returns-in-OnCurve2 : goal.returns-in-OnCurve2
returns-in-OnCurve2 g c =
    let here = c.in-OnCurve2 in
    in_two g.met.B.TakesBytes.joins _ _ _ _ _ _
    c.push_form-in-OnCurve2.ensures
    c.push_located-in-OnCurve2.ensures
    (append_assoc (slice_index_or here.texts 0 []) (32 ∷ 50 ∷ [])
    (located_text c.args.locations.now (here.curve2 ∷ here.surface ∷ []) here.location)
    ∙ sym (on_curve2 (location_number c.args.locations.now) c.args.point.now here.texts here.curve2 here.surface
    here.location here.is c.requires.writable.texts))

pub returns-in-OnSurface : goal.returns-in-OnSurface
returns-in-OnSurface g c =
    let here = c.in-OnSurface in
    let joins = g.met.B.TakesBytes.joins in
    in_two joins _ _ _ _ _ _
    c.push_form-in-OnSurface.ensures
    (joins.joined _ _ _ _ _ c.push_byte.ensures
    (joins.joined _ _ _ _ _ c.push_text.ensures c.push_located-in-OnSurface.ensures))
    (append_assoc (slice_index_or here.texts 0 []) (32 ∷ 51 ∷ [])
    (32 ∷ (slice_index_or here.texts 1 []
    ++ located_text c.args.locations.now (here.surface ∷ []) here.location))
    ∙ sym (on_surface (location_number c.args.locations.now) c.args.point.now here.texts here.surface here.location
    here.is c.requires.writable.texts))
