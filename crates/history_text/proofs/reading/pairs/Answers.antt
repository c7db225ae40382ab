use Rattle.std.proofs.Common.{◌≡◌, ◌-◌, [], ◌∷◌, ◌++◌, ap, sym, ◌∙◌, arith, rules}
use Rattle.std.proofs.lemmas.Grind.{common_steps}
use Rattle.history_text.specs.LineForms.{pair_due}
use Rattle.history_text.specs.Reading.{lines_at}
use Rattle.history_text.proofs.SectionLaws.{row_read}
use Rattle.history_text.proofs.reading.pairs.Goals as goal

pub lines-preserved : goal.lines-preserved
lines-preserved c =
    let pushed : c.push.new.self ≡ c.lines.said ++ c.in_ok-next.next ∷ [] = first_of (search rules, grind (arith, common_steps)) in
    ap (λ z. lines_at (pair_due c.args.written) z (c.lines.due - 1) c.pair.new.lines) pushed
    ∙ sym (row_read (pair_due c.args.written) c.lines.said c.lines.due c.lines.lines c.pair.new.lines c.in_ok-next.next (omega (arith, c.lines-test.true)) c.in_ok-next.ensures)
    ∙ c.lines.invariant
