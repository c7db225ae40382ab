use Rattle.std.proofs.Common.{ap, rules}
use Rattle.std.specs.Prelude.{◌∷◌}
use Rattle.byte_sink.proofs.Joining.{in_two}
use Rattle.written_heads.proofs.fields.push_number.Goals as goal

pub returns : goal.returns
returns g c =
    in_two g.met.B.TakesBytes.joins _ _ _ _ _ _
    c.push_byte.ensures
    c.push.ensures
    (ap (λ t. 32 ∷ t) (search rules))
