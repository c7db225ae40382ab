-- Each visit takes one of those that are left; the uses so far give the results so far.
use Rattle.std.proofs.Common.{map, take, ◌+◌, ◌*◌}
use Rattle.expansion_laws.specs.Plain.{shown_use}
use Rattle.expansion_laws.specs.SlowParts.{context, part_of_all, seen_use, step_by, Gives}
use Rattle.expansion_laws.proofs.rewriting.+rewrite.Given as goal

abbrev pub decreases-rewrite_use : goal.decreases-rewrite_use
decreases-rewrite_use l = 5 * l.left

abbrev pub decreases-rewrite_matched : goal.decreases-rewrite_matched
decreases-rewrite_matched l = 5 * l.left + 4

abbrev pub decreases-go_through : goal.decreases-go_through
decreases-go_through l = 5 * l.left + 3

abbrev pub decreases-replace : goal.decreases-replace
decreases-replace l = 5 * l.left + 3

abbrev pub decreases-rewrite_each : goal.decreases-rewrite_each
decreases-rewrite_each l = 5 * l.left + 2

abbrev pub invariant-rewrite_each-loop-i : goal.invariant-rewrite_each-loop-i
invariant-rewrite_each-loop-i l =
    Gives (part_of_all (step_by l.rules) (context l.here) (take l.i (map seen_use l.uses))) l.left
    (map shown_use l.results.items) l.rest
