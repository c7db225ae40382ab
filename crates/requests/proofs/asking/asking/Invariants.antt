-- The marks of the nodes gone through.
use Rattle.std.proofs.Common.{◌≡◌, take}
use Rattle.requests.specs.Plans.{asked}
use Rattle.requests.proofs.asking.asking.Given as goal

abbrev pub invariant-loop-id : goal.invariant-loop-id
invariant-loop-id l = l.marks.items ≡ asked l.part l.table.requests (take l.id-index l.nodes.keys)
