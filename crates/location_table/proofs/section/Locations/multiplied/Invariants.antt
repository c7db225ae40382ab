-- The word so far with the factors that are left is the whole word, and they are within the limits.
use Rattle.std.proofs.Common.{◌≡◌, drop, fold, length}
use Rattle.location_table.specs.Limits.{AreWithin}
use Rattle.location_table.specs.Words.{with_factor, word_of_factors, words_of}
use Rattle.location_table.proofs.section.Locations.multiplied.Given as goal

abbrev pub invariant-loop-factor : goal.invariant-loop-factor
invariant-loop-factor l = record {
  made : fold (with_factor (words_of l.self)) l.word (drop l.factor-index l.factor-items) ≡ word_of_factors
      (words_of l.self) l.factors;
  within : AreWithin (length l.self) (words_of l.self) l.word (drop l.factor-index l.factor-items);
}
