use Rattle.std.specs.Prelude.{◌∷◌}
use Rattle.shape_listing.specs.Lines.{line_of}
use Rattle.byte_sink.proofs.Joining.{in_two}
use Rattle.shape_listing.proofs.walk.push_found.Goals as goal

pub returns : goal.returns
returns g c =
    in_two g.met.B.TakesBytes.joins _ _ _ _ _ _
    c.push_byte.ensures
    c.push_shape.ensures
    (λ i. c.sign.ensures i ∷ line_of (c.origin.ensures i) c.args.word.now)
