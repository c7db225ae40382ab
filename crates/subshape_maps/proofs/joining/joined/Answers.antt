-- The product's fault is the one that is due.
use Rattle.std.proofs.Common.{◌≡◌, subst, sym}
use Rattle.std.specs.Prelude.{List}
use Rattle.location_words.specs.declared.pair.Pair.{Pair}
use Rattle.location_words.specs.Faults.{fault_of}
use Rattle.location_words.specs.Pairs.{mul as mul_of}
use Rattle.shape_pool.specs.Laws.{word_in}
use Rattle.subshape_maps.specs.Refusals.{IsDueWord}
use Rattle.subshape_maps.proofs.NumberLemmas.{word-at}
use Rattle.subshape_maps.proofs.joining.joined.Goals as goal

pub returns-in-Err-clause-refused : goal.returns-in-Err-clause-refused
returns-in-Err-clause-refused c =
    let a = word-at c.args.words.now c.args.above.0 c.word.result.now c.word.ensures.word in
    let b = word-at c.args.words.now c.args.place.0 c.word-2.result.now c.word-2.ensures.word in
    let e : mul_of c.word.result.now c.word-2.result.now ≡ mul_of (word_in c.args.words.now c.args.above.0) (word_in c.args.words.now c.args.place.0) =
    λ i. mul_of (sym a i) (sym b i) in
    subst (λ (w : List Pair). IsDueWord (fault_of w) c.of_word.result) e (c.of_word.ensures (fault_of (mul_of c.word.result.now c.word-2.result.now)) c.in-Err.ensures.refused)
