-- What is met stays closed, and a node goes in after all below it.
use Rattle.std.proofs.Common.{◌≡◌, ◌<◌, ◌+◌, ◌*◌, sym, subst, arith, take}
use Rattle.std.specs.Prelude.{List, ℕ}
use Rattle.lists.proofs.Places.{take-at}
use Rattle.std.proofs.lemmas.List.{take_all}
use Rattle.shape_pool.specs.Laws.{ids_used}
use Rattle.step_history.specs.Gathering.{Meets}
use Rattle.step_history.proofs.WalkLaws.{meets-already, meets-itself, meets-next, meets-none}
use Rattle.step_history.proofs.below.+walk.Goals as goal

pub meet-returns-then-has : goal.meet-returns-then-has
meet-returns-then-has t c = meets-already c.args.pool.now c.args.id.0 c.args.met.now (c.has.ensures.0 c.if-has.true) c.requires.closed

pub meet-returns : goal.meet-returns
meet-returns t c =
    meets-itself c.args.pool.now c.args.id.0 c.args.met.now c.meet_below.new.met c.note.new.self c.in_ok-meet_below.ensures c.in_ok-note.ensures

pub meet_below-meet-requires : goal.meet_below-meet-requires
meet_below-meet-requires t c =
    let less = c.used_at.ensures.earlier in
    let measure : 2 * c.args.id.0 ≡ t = c.decreases in
    let falls : 2 * c.used_at.result.0 + 1 < t = omega (arith, less, measure) in
    (falls, (c.used_at.ensures.held, c.loop-at.invariant.closed))

pub meet_below-loop-at-init : goal.meet_below-loop-at-init
meet_below-loop-at-init t c = meets-none c.args.pool.now c.args.met.now c.requires.closed

pub meet_below-loop-at-preserved : goal.meet_below-loop-at-preserved
meet_below-loop-at-preserved t c =
    let ids : List ℕ = ids_used c.args.pool.now c.args.id.0 in
    subst (λ (l : List ℕ). Meets c.args.pool.now l c.args.met.now c.meet.new.met) (sym (take-at ids c.loop-at.at c.used_at.result.0 c.used_at.ensures.id))
    (meets-next c.args.pool.now (take c.loop-at.at ids) c.args.met.now c.loop-at.met c.meet.new.met c.used_at.result.0 c.loop-at.invariant c.in_ok-meet.ensures)

pub meet_below-returns : goal.meet_below-returns
meet_below-returns t c =
    let ids : List ℕ = ids_used c.args.pool.now c.args.id.0 in
    subst (λ (l : List ℕ). Meets c.args.pool.now l c.args.met.now c.loop-at.met) (take_all c.loop-at.at ids (omega (arith, c.use_count-at-end.ensures, c.loop-at-test.false))) c.loop-at.invariant
