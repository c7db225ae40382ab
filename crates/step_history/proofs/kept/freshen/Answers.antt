-- The image is noted where the shape isn't one of the input's.
use Rattle.std.proofs.Common.{refl, sym, ◌∙◌, true≢false}
use Rattle.step_history.specs.Gathering.{IsFresh}
use Rattle.lists.proofs.Gathering.{adds-nothing}
use Rattle.step_history.proofs.GatherLaws.{adds-noted}
use Rattle.step_history.proofs.kept.freshen.Goals as goal

pub returns-then-has : goal.returns-then-has
returns-then-has c = adds-nothing (IsFresh c.args.input.now c.args.pair) c.args.fresh.now (λ y p. p.1 (c.has.ensures.0 c.if-has.true))

pub returns : goal.returns
returns c =
    adds-noted (IsFresh c.args.input.now c.args.pair) c.args.fresh.now c.note.new.self c.args.pair.1.0 c.in_ok-note.ensures
    (refl, λ m. true≢false (sym (c.has.ensures.1 m) ∙ c.if-has.false)) (λ y q. q.0)
