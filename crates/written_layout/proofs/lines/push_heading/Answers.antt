use Rattle.std.proofs.Common.{◌∷◌, [], sym}
use Rattle.std.specs.Fmt.{decimal}
use Rattle.std.proofs.lemmas.List.{append_assoc}
use Rattle.byte_sink.proofs.Joining.{as_text}
use Rattle.written_layout.proofs.lines.push_heading.Goals as goal

pub returns : goal.returns
returns g c =
    let joins = g.met.B.TakesBytes.joins in
    as_text joins _ _ _ _
    (joins.joined _ _ _ _ _ c.push.ensures
    (joins.joined _ _ _ _ _ c.push_byte.ensures
    (joins.joined _ _ _ _ _ c.push_number.ensures c.push_byte-2.ensures)))
    (sym (append_assoc c.args.word.now (32 ∷ decimal c.args.count) (10 ∷ [])))
