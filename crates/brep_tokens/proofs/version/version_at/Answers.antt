use Rattle.std.proofs.Common.{sym, refl, ◌∙◌}
use Rattle.brep_tokens.specs.Tokens.{version_line}
use Rattle.brep_tokens.proofs.Heads.{says_first, says_second, says_none, words_after}
use Rattle.brep_tokens.proofs.version.version_at.Goals as goal

pub returns-then-is_text : goal.returns-then-is_text
unfolding version_line
returns-then-is_text c = (
  c.past_line-next.ensures.fits,
  (
    _,
    _,
    says_first c.args.bytes.now c.args.at c.args.line c.line_end-end.result c.past_line-next.result
        c.line_end-end.ensures.size (sym c.is_text.ensures ∙ c.if-is_text.true),
    words_after c.args.bytes.now c.args.at c.args.line c.line_end-end.result c.past_line-next.result
        c.line_end-end.ensures.size c.line_end-end.ensures.fits c.past_line-next.ensures.next
        c.past_line-next.ensures.none,
  ),
)

pub returns-then-is_text-2 : goal.returns-then-is_text-2
unfolding version_line
returns-then-is_text-2 c = (
  c.past_line-next.ensures.fits,
  (
    _,
    _,
    says_second c.args.bytes.now c.args.at c.args.line c.line_end-end.result c.past_line-next.result
        c.line_end-end.ensures.size (sym c.is_text.ensures ∙ c.if-is_text.false) (sym c.is_text-2.ensures
        ∙ c.if-is_text-2.true),
    words_after c.args.bytes.now c.args.at c.args.line c.line_end-end.result c.past_line-next.result
        c.line_end-end.ensures.size c.line_end-end.ensures.fits c.past_line-next.ensures.next
        c.past_line-next.ensures.none,
  ),
)

pub returns : goal.returns
unfolding version_line
returns c =
    let says = says_none c.args.bytes.now c.args.at c.args.line c.line_end-end.result c.past_line-next.result
    c.line_end-end.ensures.size (sym c.is_text.ensures ∙ c.if-is_text.false) (sym c.is_text-2.ensures
    ∙ c.if-is_text-2.false) in
    rw (says, c.fault.ensures) refl
