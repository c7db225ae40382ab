use Rattle.std.proofs.Common.{◌∙◌, ℕ, ap, arith, sym}
use Rattle.std.specs.Prelude.{take}
use Rattle.byte_sink.proofs.Joining.{as_text, in_two}
use Rattle.written_heads.specs.Words.{decimals_text}
use Rattle.written_heads.proofs.LineLemmas.{range_alone, range_and_uv}
use Rattle.written_heads.proofs.PieceLemmas.{with_uv, without_uv}
use Rattle.written_heads.proofs.edges.push_p_curve.Goals as goal

pub returns-then-version-eq2 : goal.returns-then-version-eq2
returns-then-version-eq2 g c =
    let six = with_uv c.args.version c.if-version-eq2.true in
    in_two g.met.B.TakesBytes.joins _ _ _ _ _ _
    c.push_range.ensures
    c.push_uv.ensures
    (range_and_uv c.args.texts.now (omega (arith, six, c.requires))
    ∙ ap (λ (n : ℕ). decimals_text (take n c.args.texts.now)) (sym six))

pub returns-else-version-eq2 : goal.returns-else-version-eq2
returns-else-version-eq2 g c =
    let two = without_uv c.args.version c.if-version-eq2.false in
    as_text g.met.B.TakesBytes.joins _ _ _ _
    c.push_range.ensures
    (range_alone c.args.texts.now (omega (arith, two, c.requires))
    ∙ ap (λ (n : ℕ). decimals_text (take n c.args.texts.now)) (sym two))
