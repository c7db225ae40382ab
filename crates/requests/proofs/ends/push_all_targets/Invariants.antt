-- Where the requests so far lead is added.
use Rattle.std.proofs.Common.{◌≡◌, ◌++◌, take}
use Rattle.std.specs.List.{flat_map}
use Rattle.requests.specs.Readings.{targets_at}
use Rattle.requests.proofs.ends.push_all_targets.Given as goal

abbrev pub invariant-loop-r : goal.invariant-loop-r
invariant-loop-r l = l.ends.items ≡ l.initial.ends.items ++ flat_map (λ r. targets_at l.pool l.id.0 r.act) (take l.r-index l.live)
