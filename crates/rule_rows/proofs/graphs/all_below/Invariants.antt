-- All so far are below.
use Rattle.std.proofs.Common.{◌<◌, take}
use Rattle.std.specs.Prelude.{All}
use Rattle.rule_rows.proofs.graphs.all_below.Given as goal

abbrev pub invariant-loop-end : goal.invariant-loop-end
invariant-loop-end l = All (λ end. end < l.count) (take l.end-index l.ends)
