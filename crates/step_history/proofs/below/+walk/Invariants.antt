-- All that stands below the uses so far is met. A node's uses have smaller numbers.
use Rattle.std.proofs.Common.{◌+◌, ◌*◌, take}
use Rattle.shape_pool.specs.Laws.{ids_used}
use Rattle.step_history.specs.Gathering.{Meets}
use Rattle.step_history.proofs.below.+walk.Given as goal

abbrev pub decreases-meet : goal.decreases-meet
decreases-meet l = 2 * l.id.0 + 1

abbrev pub decreases-meet_below : goal.decreases-meet_below
decreases-meet_below l = 2 * l.id.0

abbrev pub invariant-meet_below-loop-at : goal.invariant-meet_below-loop-at
invariant-meet_below-loop-at l = Meets l.pool (take l.at (ids_used l.pool l.id.0)) l.fn.met l.met
