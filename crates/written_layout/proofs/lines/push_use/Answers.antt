use Rattle.std.proofs.Common.{ℕ, ◌∷◌, [], ap, sym}
use Rattle.std.specs.Fmt.{decimal}
use Rattle.std.proofs.lemmas.List.{append_assoc}
use Rattle.orientation.specs.Turns.{sign_of}
use Rattle.byte_sink.proofs.Joining.{as_text}
use Rattle.written_layout.proofs.lines.push_use.Goals as goal

pub returns : goal.returns
returns g c =
    let joins = g.met.B.TakesBytes.joins in
    let turn = as_text joins _ _ _ _
    c.push_byte.ensures
    (ap (λ (b : ℕ). b ∷ []) c.sign.ensures) in
    as_text joins _ _ _ _
    (joins.joined _ _ _ _ _ turn
    (joins.joined _ _ _ _ _ c.push_number.ensures
    (joins.joined _ _ _ _ _ c.push_byte-2.ensures
    (joins.joined _ _ _ _ _ c.push_number-2.ensures c.push_byte-3.ensures))))
    (sym (append_assoc (sign_of c.args.turn ∷ decimal c.args.number) (32 ∷ decimal c.args.location)
    (c.args.end ∷ [])))
