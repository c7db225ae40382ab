-- The names so far are sewn, to an edge if there are any.
use Rattle.std.proofs.Common.{◌≤◌, reverse, take}
use Rattle.sewing.specs.Refused.{CanBeSewn, IsEdge}
use Rattle.script_requests.specs.Numbered.{JoinsAll}
use Rattle.script_requests.proofs.joining.sew_all.Given as goal

abbrev pub invariant-loop-name : goal.invariant-loop-name
invariant-loop-name l = record {
  joins : JoinsAll l.pool (reverse l.versions) (CanBeSewn l.pool l.first) l.first (take l.name-index l.further) l.asked;
  edge : 1 ≤ l.name-index → IsEdge l.pool l.first;
}
