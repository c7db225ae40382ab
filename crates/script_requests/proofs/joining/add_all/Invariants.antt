-- The requests so far are added.
use Rattle.std.proofs.Common.{◌≡◌, ◌++◌, take}
use Rattle.script_requests.proofs.joining.add_all.Given as goal

abbrev pub invariant-loop-request : goal.invariant-loop-request
invariant-loop-request l = l.asked ≡ l.initial.asked ++ take l.request-index l.more
