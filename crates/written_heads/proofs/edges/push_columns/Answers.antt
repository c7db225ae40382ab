use Rattle.std.proofs.Common.{◌∙◌, ◌∷◌, [], ap, refl, sym}
use Rattle.byte_sink.proofs.Joining.{as_text}
use Rattle.written_heads.specs.Words.{IsWritten, written_numbers}
use Rattle.written_heads.proofs.LocationLemmas.{named}
use Rattle.written_heads.proofs.PieceLemmas.{located_spaced}
use Rattle.written_heads.proofs.edges.push_columns.Goals as goal

pub push_located-requires-clause-written : goal.push_located-requires-clause-written
push_located-requires-clause-written g c =
    named (IsWritten c.args.locations.now) _ _ c.in-Curve.location [] c.in-Curve.is refl c.requires.named

pub push_located-requires-in-Curve2-clause-written : goal.push_located-requires-in-Curve2-clause-written
push_located-requires-in-Curve2-clause-written g c =
    named (IsWritten c.args.locations.now) _ _ c.in-Curve2.location [] c.in-Curve2.is refl c.requires.named

pub returns-in-Curve : goal.returns-in-Curve
returns-in-Curve g c =
    as_text g.met.B.TakesBytes.joins _ _ _ _
    c.push_located.ensures
    (located_spaced (c.in-Curve.curve ∷ []) _ ∙ ap (written_numbers c.args.locations.now) (sym c.in-Curve.is))

pub returns-in-Curve2 : goal.returns-in-Curve2
returns-in-Curve2 g c =
    let here = c.in-Curve2 in
    as_text g.met.B.TakesBytes.joins _ _ _ _
    c.push_located-in-Curve2.ensures
    (located_spaced (here.curve2 ∷ here.surface ∷ []) _ ∙ ap (written_numbers c.args.locations.now) (sym here.is))
