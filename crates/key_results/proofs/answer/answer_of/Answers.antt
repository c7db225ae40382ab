-- Sorted pairs are the same pairs.
use Rattle.key_results.proofs.PairLaws.{iff-on, iff-left}
use Rattle.key_results.proofs.answer.answer_of.Goals as goal

pub returns-clause-images : goal.returns-clause-images
returns-clause-images c =
    λ p. iff-on (c.ascending_pairs.ensures.same p) (iff-left (c.in_ok-add_unseen.ensures p) (c.in_ok-images.ensures p))

pub returns-clause-replaced : goal.returns-clause-replaced
returns-clause-replaced c = λ p. iff-on (c.ascending_pairs-2.ensures.same p) (c.in_ok-replaced.ensures p)
