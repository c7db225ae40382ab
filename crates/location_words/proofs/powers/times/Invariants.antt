-- The product of the factors so far, each of which was a word.
use Rattle.std.proofs.Common.{◌≡◌, None}
use Rattle.location_words.specs.Faults.{fault_of_times}
use Rattle.location_words.specs.Pairs.{times as times_of}
use Rattle.location_words.proofs.powers.times.Given as goal

abbrev pub invariant-loop : goal.invariant-loop
invariant-loop l = record {
  made : l.product ≡ times_of l.factor l.counter;
  words : fault_of_times l.factor l.counter ≡ None;
}
