-- The last of the requests so far that fits.
use Rattle.std.proofs.Common.{◌≡◌, map, take}
use Rattle.std.specs.Option.{option_map}
use Rattle.expansion_laws.specs.Requests.{match_of}
use Rattle.expansion_laws.specs.Plain.{shown_tree}
use Rattle.expansion_laws.specs.SlowRewriting.{shown_request}
use Rattle.expansion_laws.specs.SlowParts.{context}
use Rattle.expansion_laws.proofs.requests.last_fitting.Given as goal

abbrev pub invariant-loop-request : goal.invariant-loop-request
invariant-loop-request l =
    option_map (λ r. shown_request r.now) l.found ≡
    match_of (take l.request-index (map shown_request l.requests)) (shown_tree l.tree) (context l.here)
