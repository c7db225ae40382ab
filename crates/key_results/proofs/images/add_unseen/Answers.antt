-- Fresh marks are clear.
use Rattle.std.proofs.Common.{◌∙◌, false, ap, subst, length}
use Rattle.std.proofs.lemmas.List.{length-replicate}
use Rattle.key_results.specs.Pairs.{IsMarked}
use Rattle.key_results.proofs.MarkTurns.{fresh}
use Rattle.key_results.proofs.images.add_unseen.Goals as goal

pub see_all-requires-clause-long : goal.see_all-requires-clause-long
see_all-requires-clause-long c =
    ap length (c.as_mut_slice.ensures.value ∙ c.in_ok-marks.ensures.items_if_clones_equal (λ y e. e)) ∙
    length-replicate c.mark.result false ∙ c.mark.ensures

pub see_all-requires-clause-clear : goal.see_all-requires-clause-clear
see_all-requires-clause-clear c = λ i m.
    fresh c.mark.result i (subst (λ l. IsMarked l i)
    (c.as_mut_slice.ensures.value ∙ c.in_ok-marks.ensures.items_if_clones_equal (λ y e. e)) m)
