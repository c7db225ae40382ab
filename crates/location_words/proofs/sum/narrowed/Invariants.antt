-- The pairs so far.
use Rattle.std.proofs.Common.{◌≡◌, ◌≤◌, take, map}
use Rattle.location_words.specs.Sums.{as_pair}
use Rattle.location_words.proofs.sum.narrowed.Given as goal

abbrev pub invariant-loop-q : goal.invariant-loop-q
invariant-loop-q l = record {
  same : l.pairs.items ≡ map as_pair (take l.q-index l.sum);
  room : 4 ≤ l.pairs.capacity;
}
