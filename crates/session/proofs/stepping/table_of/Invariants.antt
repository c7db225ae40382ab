-- The requests so far are in the table, under the usual rule.
use Rattle.std.proofs.Common.{◌≡◌, take}
use Rattle.orientation.specs.Rules.{usual}
use Rattle.requests.specs.Numbered.{a_table}
use Rattle.session.proofs.stepping.table_of.Given as goal

abbrev pub invariant-loop-request : goal.invariant-loop-request
invariant-loop-request l = l.table ≡ a_table (take l.request-index l.asked) usual
