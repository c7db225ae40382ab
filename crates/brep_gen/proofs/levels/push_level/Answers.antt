-- One compound more, and twelve draws.
use Rattle.std.proofs.Common.{◌∙◌, ◌++◌, ◌*◌, ap, sym, arith}
use Rattle.brep_tokens.specs.Written.{lines_text}
use Rattle.brep_gen.specs.Draws.{state_at}
use Rattle.brep_gen.specs.Generated.{drawn_compound}
use Rattle.brep_gen.proofs.DrawLemmas.{state_none, state_sum}
use Rattle.brep_gen.proofs.TextLemmas.{lines_more, lines_none}
use Rattle.brep_gen.proofs.levels.push_level.Goals as goal

pub loop-k-preserved : goal.loop-k-preserved
loop-k-preserved c =
    let x = c.args.draws.now.state in
    let k = c.loop-k.k in (
      c.in_ok-push_drawn_compound.ensures.text
          ∙ (λ i. c.loop-k.invariant.0 i ++ lines_text (drawn_compound c.args.n c.args.first (c.loop-k.invariant.1 i)))
          ∙ lines_more c.args.text.now.items k (λ k. drawn_compound c.args.n c.args.first (state_at x (12 * k))),
      c.in_ok-push_drawn_compound.ensures.draws
          ∙ ap (λ s. state_at s 12) c.loop-k.invariant.1
          ∙ sym (state_sum x (12 * k) 12)
          ∙ ap (state_at x) (omega arith),
    )

pub loop-k-init : goal.loop-k-init
loop-k-init c =
    let x = c.args.draws.now.state in
    (lines_none c.args.text.now.items (λ k. drawn_compound c.args.n c.args.first (state_at x (12 * k))), state_none x)
