-- The curve is whole, and the surface with it.
use Rattle.std.proofs.Common.{◌≡◌, List, Ok, ◌∷◌, sym, refl, ◌∙◌}
use Rattle.brep_tokens.specs.declared.text.Token.{Token}
use Rattle.curve_tables.specs.Left.{curve3_left}
use Rattle.surface_tables.proofs.part.PartReader.take_curve.Goals as goal

pub returns-in-Whole-clause-part : goal.returns-in-Whole-clause-part
returns-in-Whole-clause-part c =
    let took = rw c.in-Whole.is at c.in_ok-take.ensures in
    let read : (rest : List Token)
    → curve3_left c.args.self.now.curve (c.args.t.now ∷ rest) ≡ Ok (c.done-curve.result, rest) =
    λ rest. sym (took.0 rest) ∙ rw (← c.replace-reader.ensures.value) (c.done-curve.ensures rest) in
    (λ rest. rw (read rest, c.taken-texts.ensures) refl, c.requires.nested)
