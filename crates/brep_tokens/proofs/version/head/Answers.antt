use Rattle.std.proofs.Common.{sym, ◌∙◌, subst, ◌≡◌, true, drop}
use Rattle.brep_tokens.specs.Scan.{IsHead}
use Rattle.brep_tokens.specs.Tokens.{head_at, Head}
use Rattle.brep_tokens.proofs.Heads.{mark_says}
use Rattle.brep_tokens.proofs.version.head.Goals as goal

pub returns-then-starts_mark : goal.returns-then-starts_mark
returns-then-starts_mark c =
    let says = mark_says c.args.bytes.now c.lines.line c.lines.at c.lines-test.true (sym c.starts_mark.ensures
    ∙ c.if-starts_mark.true) in
    let started : head_at true c.lines.line c.lines.at (drop c.lines.at c.args.bytes.now) ≡ head_at true 1 0
    c.args.bytes.now = subst (λ b. head_at b c.lines.line c.lines.at (drop c.lines.at c.args.bytes.now)
    ≡ head_at true 1 0 c.args.bytes.now) c.if-start.true c.lines.invariant.same in
    subst (λ (h : Head). IsHead c.args.bytes.now c.version_at.result h) (sym says ∙ started) c.version_at.ensures
