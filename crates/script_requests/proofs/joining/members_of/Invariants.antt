-- The nodes so far under the turn.
use Rattle.std.proofs.Common.{◌≡◌, take}
use Rattle.script_requests.specs.Numbered.{members_under}
use Rattle.script_requests.proofs.joining.members_of.Given as goal

abbrev pub invariant-loop-id : goal.invariant-loop-id
invariant-loop-id l = l.members.items ≡ members_under l.name (take l.id-index l.ids)
