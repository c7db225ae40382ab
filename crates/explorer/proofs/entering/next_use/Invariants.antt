-- What is left so far has no such use.
use Rattle.std.proofs.Common.{◌≡◌, length}
use Rattle.std.specs.List.{filter}
use Rattle.explorer.specs.Levels.{coming_of, is_marked_place, IsWay}
use Rattle.explorer.proofs.entering.next_use.Given as goal

abbrev pub invariant-loop-id : goal.invariant-loop-id
invariant-loop-id l = record {
  same : filter (is_marked_place l.marks) (coming_of l.pool l.start l.initial.trail.levels) ≡
      filter (is_marked_place l.marks) (coming_of l.pool l.start l.trail.levels);
  way : IsWay l.pool (length l.marks) l.start l.trail;
  deep : l.trail.deep ≡ l.initial.trail.deep;
}

abbrev pub decreases-loop-id : goal.decreases-loop-id
decreases-loop-id l = length l.trail.levels
