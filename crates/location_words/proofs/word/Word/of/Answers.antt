-- What was taken is the reduced list.
use Rattle.location_words.proofs.SumLemmas.{reduced-norm, reduced-word}
use Rattle.location_words.proofs.word.Word.of.Goals as goal

pub within-requires-clause-reduced : goal.within-requires-clause-reduced
within-requires-clause-reduced c = rw c.as_slice.ensures
    (reduced-word c.take_all.new.so_far.items c.args.pairs.now
    (reduced-norm c.new-sum.result.items c.take_all.new.so_far.items c.args.pairs.now c.new-sum.ensures.items
    c.in-Ok.ensures.ok))
