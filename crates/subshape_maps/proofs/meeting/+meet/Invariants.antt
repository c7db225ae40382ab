-- The uses so far are gone through; the numbers of what is used are smaller.
use Rattle.std.proofs.Common.{take}
use Rattle.subshape_maps.proofs.EnterLemmas.{uses_by, IsEntered}
use Rattle.subshape_maps.proofs.meeting.+meet.Given as goal

abbrev pub decreases-meet : goal.decreases-meet
decreases-meet l = l.at.id.0

abbrev pub invariant-uses : goal.invariant-uses
invariant-uses l = IsEntered l.pool l.fn.words l.fn.seen.keys l.at (take l.i (uses_by l.fn.words l.pool l.at)) l.words l.seen.keys
