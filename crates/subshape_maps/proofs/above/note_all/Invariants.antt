-- The high shape is noted for those so far.
use Rattle.std.proofs.Common.{◌≡◌, ◌≤◌, take}
use Rattle.subshape_maps.specs.Above.{all_noted, counted}
use Rattle.subshape_maps.proofs.above.note_all.Given as goal

abbrev pub invariant-loop-i : goal.invariant-loop-i
invariant-loop-i l = record {
  rows : l.rows.items ≡ all_noted (take l.i l.below.keys) l.high l.initial.rows.items;
  counted : l.pairs ≡ counted l.rows.items;
  few : l.pairs ≤ 16777216;
}
