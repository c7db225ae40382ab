-- The powers so far are within the limit.
use Rattle.std.proofs.Common.{take, map}
use Rattle.location_words.specs.Sums.{as_pair}
use Rattle.location_words.specs.Pairs.{AllSmall}
use Rattle.location_words.proofs.sum.large_power.Given as goal

abbrev pub invariant-loop-q : goal.invariant-loop-q
invariant-loop-q l = AllSmall (map as_pair (take l.q-index l.sum))
