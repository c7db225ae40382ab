-- The targets of the requests so far fit.
use Rattle.std.proofs.Common.{All, take}
use Rattle.requests.specs.Numbered.{ActFits}
use Rattle.requests.specs.declared.request.Request.{Request}
use Rattle.script_requests.proofs.asking.all_fit.Given as goal

abbrev pub invariant-loop-request : goal.invariant-loop-request
invariant-loop-request l =
    All (λ (r : Request). ActFits l.pool r.source.0 r.act) (take l.request-index l.asked)
