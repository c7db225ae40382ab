-- The requests for the sources so far.
use Rattle.std.proofs.Common.{◌≡◌, map, take}
use Rattle.script_requests.specs.Numbered.{a_request}
use Rattle.script_requests.proofs.asking.requests_for.Given as goal

abbrev pub invariant-loop-source : goal.invariant-loop-source
invariant-loop-source l = l.asked ≡ map (a_request l.place l.turn l.act) (take l.source-index l.sources)
