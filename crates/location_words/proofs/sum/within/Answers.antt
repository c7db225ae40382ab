-- The limits of the reduced pairs.
use Rattle.std.proofs.Common.{◌∙◌, sym, map}
use Rattle.location_words.specs.Sums.{as_pair}
use Rattle.location_words.specs.Pairs.{AllSmall}
use Rattle.location_words.proofs.FaultLemmas.{small-none}
use Rattle.location_words.proofs.SumLemmas.{small-pairs, length-pairs}
use Rattle.location_words.proofs.sum.within.Goals as goal

pub narrowed-requires : goal.narrowed-requires
narrowed-requires c =
    small-pairs c.args.reduced.now (small-none (map as_pair c.args.reduced.now)
    (sym c.large_power.ensures ∙ c.in_default.is))

pub invariant_of-result : goal.invariant_of-result
invariant_of-result c =
    let small : AllSmall (map as_pair c.args.reduced.now) =
    small-none (map as_pair c.args.reduced.now) (sym c.large_power.ensures ∙ c.in_default.is) in
    rw c.in-Ok.ensures.ok (record {
      is_word = c.requires.reduced;
      few = rw (length-pairs c.args.reduced.now) c.if-reduced-gt-MOST_PAIRS.false;
      small = small;
    })
