-- The names so far are merged.
use Rattle.std.proofs.Common.{reverse, take}
use Rattle.script_requests.specs.Asking.{under_no_sign}
use Rattle.script_requests.specs.Numbered.{CanBeMerged, JoinsAll}
use Rattle.script_requests.proofs.joining.merge_all.Given as goal

abbrev pub invariant-loop-name : goal.invariant-loop-name
invariant-loop-name l =
    JoinsAll l.pool (reverse l.versions) (CanBeMerged l.pool l.first) l.first
    (take l.name-index (under_no_sign l.further)) l.asked
