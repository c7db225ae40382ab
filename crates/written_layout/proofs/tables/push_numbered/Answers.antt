use Rattle.std.proofs.Common.{ℕ, List, ◌∙◌, ◌∷◌, [], sym}
use Rattle.std.specs.List.{flat_map}
use Rattle.std.specs.Fmt.{decimal}
use Rattle.std.proofs.lemmas.List.{append_assoc}
use Rattle.byte_sink.proofs.Joining.{as_text, in_three}
use Rattle.written_layout.proofs.LocationLines.{spaced_line}
use Rattle.written_layout.proofs.tables.push_numbered.Goals as goal

pub returns : goal.returns
returns g c =
    let joins = g.met.B.TakesBytes.joins in
    in_three joins _ _ _ _ _ _ _ _
    c.push_number.ensures
    (as_text joins _ _ _ _
    c.push.ensures
    c.spaced.ensures.run)
    c.push_byte.ensures
    (sym (spaced_line (decimal c.args.number) c.args.decimals.now
    ∙ append_assoc (decimal c.args.number) (flat_map (λ (t : List ℕ). 32 ∷ t) c.args.decimals.now) (10 ∷ [])))
