use Rattle.std.proofs.Common.{◌∙◌, ◌∷◌, ap, sym}
use Rattle.std.specs.Prelude.{Bool, if◌then◌else◌}
use Rattle.byte_sink.proofs.Joining.{as_text, in_two}
use Rattle.written_layout.proofs.tables.push_token.Goals as goal

pub returns-then-first : goal.returns-then-first
returns-then-first g c =
    let token = c.args.token.now in
    as_text g.met.B.TakesBytes.joins _ _ _ _
    c.push.ensures
    (c.bytes.ensures.text ∙ ap (λ (b : Bool). if b then token else 32 ∷ token) (sym c.if-first.true))

pub returns-else-first : goal.returns-else-first
returns-else-first g c =
    let token = c.args.token.now in
    in_two g.met.B.TakesBytes.joins _ _ _ _ _ _
    c.push_byte.ensures
    c.push-else-first.ensures
    (ap (λ t. 32 ∷ t) c.bytes-else-first.ensures.text
    ∙ ap (λ (b : Bool). if b then token else 32 ∷ token) (sym c.if-first.false))
