-- One level more.
use Rattle.std.proofs.Common.{◌∙◌, ◌++◌, ◌*◌, ◌+◌, ap, sym, arith}
use Rattle.brep_tokens.specs.Written.{lines_text}
use Rattle.brep_gen.specs.Draws.{state_at}
use Rattle.brep_gen.specs.Generated.{drawn_level}
use Rattle.brep_gen.proofs.DrawLemmas.{state_none, state_sum}
use Rattle.brep_gen.proofs.TextLemmas.{lines_more, lines_none}
use Rattle.brep_gen.proofs.levels.push_levels.Goals as goal

pub loop-level-preserved : goal.loop-level-preserved
loop-level-preserved c =
    let x = c.args.draws.now.state in
    let k = c.loop-level.level in (
      c.in_ok-push_level.ensures.text
          ∙ (λ i. c.loop-level.invariant.0 i
          ++ lines_text (drawn_level c.args.n (1024 * (k + 1)) (c.loop-level.invariant.1 i)))
          ∙ lines_more c.args.text.now.items k (λ k. drawn_level c.args.n (1024 * (k + 1)) (state_at x (12288 * k))),
      c.in_ok-push_level.ensures.draws
          ∙ ap (λ s. state_at s 12288) c.loop-level.invariant.1
          ∙ sym (state_sum x (12288 * k) 12288)
          ∙ ap (state_at x) (omega arith),
    )

pub loop-level-init : goal.loop-level-init
loop-level-init c =
    let x = c.args.draws.now.state in (
      lines_none c.args.text.now.items (λ k. drawn_level c.args.n (1024 * (k + 1)) (state_at x (12288 * k))),
      state_none x,
    )
