-- The visits stop, or nothing is marked.
use Rattle.std.proofs.Common.{◌≡◌, ◌∙◌, true, false, sym}
use Rattle.key_results.proofs.PairLaws.{so-more, no-more}
use Rattle.key_results.proofs.images.mark_if_stopped.Goals as goal

pub returns-then-stops-clause-marked : goal.returns-then-stops-clause-marked
returns-then-stops-clause-marked c = λ i. so-more (c.stops.ensures.0 c.if-stops.true) (c.mark_used.ensures.marked i)

pub returns-clause-marked : goal.returns-clause-marked
returns-clause-marked c =
    λ i. no-more (λ h. let wrong : true ≡ false = sym (c.stops.ensures.1 h) ∙ c.if-stops.false in absurd cc)
