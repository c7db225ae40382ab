-- The high shapes so far are noted.
use Rattle.std.proofs.Common.{◌≡◌, ◌≤◌, take}
use Rattle.location_words.specs.Tables.{IsTable}
use Rattle.subshape_maps.specs.Numbered.{Grows}
use Rattle.subshape_maps.specs.Above.{counted, rows_of}
use Rattle.subshape_maps.proofs.above.all_above.Given as goal

abbrev pub invariant-loop-i : goal.invariant-loop-i
invariant-loop-i l = record {
  table : IsTable l.words;
  grows : Grows l.initial.words l.words;
  rows : l.rows.items ≡ rows_of l.initial.words l.pool l.lows (take l.i l.highs);
  counted : l.pairs ≡ counted l.rows.items;
  few : l.pairs ≤ 16777216;
}
