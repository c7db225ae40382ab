-- Three draws.
use Rattle.std.proofs.Common.{◌≡◌, ◌∙◌, ◌++◌, ◌-◌, ◌+◌, ◌%◌, ap}
use Rattle.std.specs.Prelude.{◌==◌, if◌then◌else◌}
use Rattle.brep_gen.specs.Draws.{draw, state_after}
use Rattle.brep_gen.specs.Generated.{forward, reversed, use_words}
use Rattle.brep_gen.specs.Spacing.{spaced}
use Rattle.brep_gen.proofs.DrawLemmas.{second_draw, third_draw, three_states}
use Rattle.brep_gen.proofs.levels.push_drawn_use.Goals as goal

pub returns-clause-text : goal.returns-clause-text
returns-clause-text c =
    let x = c.args.draws.now.state in
    let p : c.next-place.result ≡ draw x 0 = c.next-place.ensures.drawn in
    let q : c.next-turn.result ≡ draw x 1 =
    c.next-turn.ensures.drawn ∙ ap (λ s. draw s 0) c.next-place.ensures.state ∙ second_draw x in
    let r : c.next-location.result ≡ draw x 2 =
    c.next-location.ensures.drawn
    ∙ ap (λ s. draw s 0) (c.next-turn.ensures.state ∙ ap state_after c.next-place.ensures.state)
    ∙ third_draw x in
    let s = c.sign_of.ensures ∙ ap (λ d. if d % 2 == 0 then forward else reversed) q in
    c.in_ok-push_use.ensures
    ∙ (λ i. c.args.text.now.items
    ++ spaced (use_words (s i) (c.args.n - (c.args.first + p i % 1024)) (r i % 4)))

pub returns-clause-draws : goal.returns-clause-draws
returns-clause-draws c =
    c.next-location.ensures.state
    ∙ ap state_after (c.next-turn.ensures.state ∙ ap state_after c.next-place.ensures.state)
    ∙ three_states c.args.draws.now.state
