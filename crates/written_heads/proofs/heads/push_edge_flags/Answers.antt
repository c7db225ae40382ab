use Rattle.std.proofs.Common.{◌∙◌, ◌++◌, ◌∷◌, [], ap}
use Rattle.std.specs.Prelude.{slice_index_or}
use Rattle.byte_sink.proofs.Joining.{in_two}
use Rattle.written_heads.proofs.PieceLemmas.{edge_flags_text}
use Rattle.written_heads.proofs.heads.push_edge_flags.Goals as goal

pub returns : goal.returns
returns g c =
    in_two g.met.B.TakesBytes.joins _ _ _ _ _ _
    c.push_text.ensures
    c.push.ensures
    ((λ i. slice_index_or c.args.edge.now.tolerance 0 []
    ++ 32 ∷ c.flag_digit.ensures i ∷ 32 ∷ c.flag_digit-2.ensures i ∷ 32 ∷ c.flag_digit-3.ensures i ∷ 10 ∷ [])
    ∙ edge_flags_text c.args.edge.now c.requires)
