use Rattle.std.proofs.Common.{ℕ, ◌∷◌, ap}
use Rattle.std.specs.Fmt.{decimal}
use Rattle.byte_sink.proofs.Joining.{as_text}
use Rattle.written_heads.proofs.fields.push_location.Goals as goal

pub returns : goal.returns
returns g c =
    as_text g.met.B.TakesBytes.joins _ _ _ _
    c.push_number.ensures
    (ap (λ (n : ℕ). 32 ∷ decimal n) c.number.ensures)
