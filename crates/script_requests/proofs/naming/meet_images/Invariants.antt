-- The second numbers of the pairs so far are met.
use Rattle.std.proofs.Common.{take}
use Rattle.script_requests.specs.Named.{IsRelated, IsSecond, MeetsToo}
use Rattle.script_requests.proofs.naming.meet_images.Given as goal

abbrev pub invariant-loop-pair : goal.invariant-loop-pair
invariant-loop-pair l = MeetsToo (IsRelated IsSecond (take l.pair-index l.own)) l.initial.met l.met
