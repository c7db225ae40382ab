-- The pairs so far are the last ones, turned round and negated.
use Rattle.std.proofs.Common.{◌≡◌, ◌≤◌, map, take, reverse}
use Rattle.location_words.specs.Pairs.{opposite}
use Rattle.location_words.proofs.word.inverse.Given as goal

abbrev pub invariant-loop-i : goal.invariant-loop-i
invariant-loop-i l = record {
  turned : l.pairs.items ≡ map opposite (take l.i (reverse l.items));
  room : 4 ≤ l.pairs.capacity;
}
