-- The images of the numbers so far are met.
use Rattle.std.proofs.Common.{take, []}
use Rattle.script_requests.specs.Named.{IsImageOfOne, MeetsToo}
use Rattle.script_requests.proofs.naming.images_of.Given as goal

abbrev pub invariant-loop-id : goal.invariant-loop-id
invariant-loop-id l = MeetsToo (IsImageOfOne l.pairs (take l.id-index l.ids)) [] l.met
