-- One use more, and three draws.
use Rattle.std.proofs.Common.{◌∙◌, ◌++◌, ◌*◌, ap, sym, arith}
use Rattle.brep_gen.specs.Draws.{state_at}
use Rattle.brep_gen.specs.Generated.{drawn_use}
use Rattle.brep_gen.specs.Spacing.{spaced}
use Rattle.brep_gen.proofs.DrawLemmas.{state_none, state_sum}
use Rattle.brep_gen.proofs.TextLemmas.{spaced_more, spaced_none}
use Rattle.brep_gen.proofs.levels.push_drawn_uses.Goals as goal

pub loop-k-preserved : goal.loop-k-preserved
loop-k-preserved c =
    let x = c.args.draws.now.state in
    let k = c.loop-k.k in (
      c.in_ok-push_drawn_use.ensures.text
          ∙ (λ i. c.loop-k.invariant.0 i ++ spaced (drawn_use c.args.n c.args.first (c.loop-k.invariant.1 i)))
          ∙ spaced_more c.args.text.now.items k (λ k. drawn_use c.args.n c.args.first (state_at x (3 * k))),
      c.in_ok-push_drawn_use.ensures.draws
          ∙ ap (λ s. state_at s 3) c.loop-k.invariant.1
          ∙ sym (state_sum x (3 * k) 3)
          ∙ ap (state_at x) (omega arith),
    )

pub loop-k-init : goal.loop-k-init
loop-k-init c =
    let x = c.args.draws.now.state in
    (spaced_none c.args.text.now.items (λ k. drawn_use c.args.n c.args.first (state_at x (3 * k))), state_none x)
