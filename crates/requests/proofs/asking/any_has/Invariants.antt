-- None so far has it.
use Rattle.std.proofs.Common.{◌≡◌, take, false}
use Rattle.requests.specs.Plans.{asks}
use Rattle.requests.proofs.asking.any_has.Given as goal

abbrev pub invariant-loop-r : goal.invariant-loop-r
invariant-loop-r l = asks l.part (take l.r-index l.live) ≡ false
