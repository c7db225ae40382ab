-- The nodes so far have their marks.
use Rattle.std.proofs.Common.{◌≡◌, length}
use Rattle.explorer.specs.Levels.{AreMarks}
use Rattle.explorer.proofs.giving.all_marks.Given as goal

abbrev pub invariant-loop-i : goal.invariant-loop-i
invariant-loop-i l = record {
  count : length l.marks.items ≡ l.i;
  marks : AreMarks l.pool l.find l.avoid l.marks.items;
}
