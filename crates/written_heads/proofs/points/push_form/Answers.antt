use Rattle.std.proofs.Common.{◌∷◌, []}
use Rattle.std.specs.Prelude.{slice_index_or}
use Rattle.std.proofs.lemmas.List.{append_assoc}
use Rattle.byte_sink.proofs.Joining.{in_two}
use Rattle.written_heads.proofs.points.push_form.Goals as goal

pub returns : goal.returns
returns g c =
    in_two g.met.B.TakesBytes.joins _ _ _ _ _ _
    c.push_decimal.ensures
    c.push_byte.ensures
    (append_assoc (slice_index_or c.args.texts.now 0 []) (32 ∷ []) (c.args.digit ∷ []))
